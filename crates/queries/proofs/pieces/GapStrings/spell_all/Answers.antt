-- `queries::pieces::GapStrings::spell_all` meets its contract: rule by rule.
use mathlib.Core.Path.{refl}
use Rattle.queries.proofs.Windows.{nothing_spelt}
use Rattle.queries.proofs.pieces.GapStrings.spell_all.Goals as goal

pub loop-r-init : goal.loop-r-init
loop-r-init c = record { spelt = nothing_spelt c.requires.0 _ _ c.requires.1 c.requires.2; sizes_kept = refl }
