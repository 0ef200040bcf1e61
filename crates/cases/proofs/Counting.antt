-- What a step of a run adds to the counts.
use Rattle.std.proofs.Common.{ℕ, ◌+◌, ◌≤◌, ◌≡◌, refl, Bool, true, false, List, Option, Some, None, arith}
use Rattle.cases.specs.declared.records.Found.{Found}
use Rattle.cases.specs.declared.records.Found.TheVariants.{File, Case}
use Rattle.cases.specs.declared.progress.Progress.{Progress}
use Rattle.cases.specs.Progress.{Advanced, with_found, onwards, judged_as}

-- one case more, or none, and none is judged
found_counts : (p : Progress) (f : Option Found) → ((with_found p f).cases ≤ p.cases + 1) × ((with_found p f).wrong ≡ p.wrong)
found_counts p (Some (File n)) = (omega arith, refl)
found_counts p (Some (Case c)) = (omega arith, refl)
found_counts p None = (omega arith, refl)

onwards_counts : (p : Progress) (f after : Option Found) → ((onwards p f after).cases ≤ p.cases + 1) × ((onwards p f after).wrong ≡ p.wrong)
onwards_counts p (Some (File n)) after = found_counts (record p { length = n }) after
onwards_counts p (Some (Case c)) after = found_counts p (Some (Case c))
onwards_counts p None after = found_counts p None

pub advanced_counts : (p r : Progress) (file case : List ℕ) → Advanced p r file case → (r.cases ≤ p.cases + 1) × (r.wrong ≡ p.wrong)
advanced_counts p r file case a = rw a.answer (onwards_counts p a.found a.after)

-- at most one more is wrong
pub judged_counts : (p : Progress) (right : Bool) → ((judged_as p right).length ≡ p.length) × ((judged_as p right).cases ≡ p.cases) × ((judged_as p right).wrong ≤ p.wrong + 1)
judged_counts p true = (refl, refl, omega arith)
judged_counts p false = (refl, refl, omega arith)
