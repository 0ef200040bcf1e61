-- How far a run over a data file has come.
use Rattle.std.specs.Prelude.{ℕ, ◌+◌, ◌≡◌, Bool, true, false, List, Option, Some, None, IfSome}
use Rattle.io.specs.Counts.{IsPrefixLen}
use Rattle.cases.specs.declared.case.Case as cases
use Rattle.cases.specs.declared.records.Found.{Found}
use Rattle.cases.specs.declared.records.Found.TheVariants.{File, Case}
use Rattle.cases.specs.declared.progress.Stage.{Stage}
use Rattle.cases.specs.declared.progress.Stage.TheVariants as stages
use Rattle.cases.specs.declared.progress.Progress.{Progress}
use Rattle.cases.specs.Records.{IsCase}

-- before the first case, with a file of the given length at hand
abbrev pub begun : ℕ → Progress
begun length = record { length = length; stage = stages.Begun; cases = 0; wrong = 0 }

-- the data's end
abbrev pub end_of : Progress → Progress
end_of p = record p { stage = stages.Ended }

-- a case is counted; where there is none, that is the end
abbrev pub with_found : Progress → Option Found → Progress
with_found p (Some (Case c)) = record p { stage = stages.Case c; cases = p.cases + 1 }
with_found p (Some (File n)) = end_of p
with_found p None = end_of p

-- what was found, and what was found after it where that was a file, which is then the one at hand
abbrev pub onwards : Progress → Option Found → Option Found → Progress
onwards p (Some (File n)) after = with_found (record p { length = n }) after
onwards p (Some (Case c)) after = with_found p (Some (Case c))
onwards p None after = with_found p None

-- a wrong case is counted
abbrev pub judged_as : Progress → Bool → Progress
judged_as p true = p
judged_as p false = record p { wrong = p.wrong + 1 }

-- the case at hand, if there is one
abbrev pub case_at : Stage → Option cases.Case
case_at stages.Begun = None
case_at (stages.Case c) = Some c
case_at stages.Ended = None

-- the file and the case at hand lie within their buffers, and the case is one
pub record Sound (p : Progress) (file case : List ℕ) : Type 0 where
  pub file_within : IsPrefixLen p.length file
  pub is_case : IfSome (case_at p.stage) (λ c. IsCase c case)

-- what two reads give is not known, but all else is
pub record Advanced (p r : Progress) (file case : List ℕ) : Type 0 where
  pub found : Option Found
  pub after : Option Found
  pub answer : r ≡ onwards p found after
  pub sound : Sound r file case
