-- `queries::walk::walk` meets its contract: word by word, and to each piece by piece, for every reading of the pieces. What is left to walk falls.
use lib.ListN.{length}
use Rattle.queries.proofs.Walking.{walk_cost}
use Rattle.queries.proofs.WalkTurns.{Walk, Given}
use Rattle.queries.proofs.walk.walk.Given as goal

abbrev pub invariant-loop-x : goal.invariant-loop-x
invariant-loop-x l = record {
  walks : Walk l.strings.pieces.items l.strings.starts l.strings.sizes.now l.n l.p l.frames.items l.i l.skip l.x-index;
  given : Given l.strings.pieces.items l.strings.starts l.strings.sizes.now l.n l.p l.x-index l.out;
}

abbrev pub invariant-loop-w : goal.invariant-loop-w
invariant-loop-w l = Walk l.strings.pieces.items l.strings.starts l.strings.sizes.now l.n l.p l.frames.items l.i l.skip l.x-index

abbrev pub decreases-loop-w : goal.decreases-loop-w
decreases-loop-w l = walk_cost l.strings.pieces.items l.strings.starts l.n l.frames.items l.i (length l.frames.items)
