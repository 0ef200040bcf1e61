-- `text::arguments::arguments` meets its contract: none of those passed is missing.
use Rattle.std.proofs.Common.{ℕ, ◌<◌, false}
use Rattle.text.proofs.arguments.arguments.Given as goal

abbrev pub invariant-loop-i : goal.invariant-loop-i
invariant-loop-i g l = (j : ℕ) → j < l.i → goal.F-post g l.is_missing j false
