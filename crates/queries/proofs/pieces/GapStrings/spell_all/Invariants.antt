-- `queries::pieces::GapStrings::spell_all` meets its contract: rule by rule.
use mathlib.Core.Path.{◌≡◌}
use Rattle.queries.specs.Building.{Spelt}
use Rattle.queries.proofs.pieces.GapStrings.spell_all.Given as goal

abbrev pub invariant-loop-r : goal.invariant-loop-r
invariant-loop-r l = record {
  spelt : Spelt l.file l.r l.rules l.self.sizes.now l.self.pieces.items l.self.starts;
  sizes_kept : l.self.sizes.now ≡ l.fn.self.sizes.now;
}
