-- `queries::pieces::GapStrings::close` meets its contract: gap by gap of the open words.
use mathlib.Core.Path.{◌≡◌}
use mathlib.Core.List.{[], ◌∷◌, ◌++◌}
use lib.ListN.{length}
use Rattle.queries.specs.Pieces.{Closes}
use Rattle.queries.proofs.Closing.{Now}
use Rattle.queries.proofs.pieces.GapStrings.close.Given as goal

abbrev pub invariant-loop-lowest : goal.invariant-loop-lowest
invariant-loop-lowest l = record {
  closes : Closes Now l.fn.self.starts l.fn.self.sizes.now l.fn.self.pieces.items (l.fn.opens.items ++ l.fn.word ∷ []) l.self.pieces.items l.opens.items;
  starts_kept : l.self.starts ≡ l.fn.self.starts;
  sizes_kept : l.self.sizes.now ≡ l.fn.self.sizes.now;
}

abbrev pub decreases-loop-lowest : goal.decreases-loop-lowest
decreases-loop-lowest l = length l.opens.items
