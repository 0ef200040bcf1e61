-- `grammar::bodies::subtree_end` meets its contract: the words of the trees still due from the cursor's place on end where the subtree does.
use Prim.Native.Nat.{◌+◌, ◌*◌, ◌/◌, ◌-◌, ◌≤◌}
use lib.ListN.{length}
use Rattle.model.specs.Edits.{subtree}
use Rattle.model.specs.File.{words_in}
use Rattle.grammar.specs.Meaning.{ranks_in}
use Rattle.grammar.proofs.SubtreeEnd.{DueTo}
use Rattle.grammar.proofs.bodies.subtree_end.Given as goal

abbrev pub invariant-loop-c : goal.invariant-loop-c
invariant-loop-c l = (l.c.at ≤ length l.body / 2) × (l.c.due ≤ 1 + 4 * l.c.at)
    × DueTo (ranks_in l.rules) (words_in l.body) (l.i + length (subtree (ranks_in l.rules) l.i (words_in l.body))) l.c.at l.c.due

abbrev pub decreases-loop-c : goal.decreases-loop-c
decreases-loop-c l = length l.body / 2 - l.c.at
