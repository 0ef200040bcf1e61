-- What a run over a data file counts.
use Rattle.std.specs.Prelude.{ℕ, suc, ◌≡◌, ◌≤◌, Bool, true, cond, ◌↔◌, ◌⊎◌, List, IfSome, is_some, take}
use Rattle.cases.specs.declared.case.Case.{Case}
use Rattle.cases.specs.declared.progress.Progress.{Progress}
use Rattle.cases.specs.declared.progress.Stage.TheVariants.{Ended}
use Rattle.cases.specs.Progress.{Advanced, begun, judged_as, case_at}
use Rattle.try_vectors.specs.Right.{Right}

-- a case, about the file at hand
abbrev pub CaseRight : Progress → List ℕ → List ℕ → Case → Type 0
CaseRight p file case c = Right c.kind (take p.length file) (take c.size case)

-- one case further, which is counted as wrong exactly where it is not right; or the end
pub record Turned (p r : Progress) (file : List ℕ) : Type 0 where
  pub case : List ℕ
  pub next : Progress
  pub advanced : Advanced p next file case
  pub right : Bool
  pub judged : IfSome (case_at next.stage) (λ c. (right ≡ true) ↔ CaseRight next file case c)
  pub answer : r ≡ cond (is_some (case_at next.stage)) (judged_as next right) next

-- so many turns, one after the other, from the start on
pub data Ran (ready : ℕ) : ℕ → Progress → Type 0 where
  not_yet : Ran ready 0 (begun ready)
  further : {n : ℕ} {p r : Progress} {file : List ℕ} → Ran ready n p → Turned p r file → Ran ready (suc n) r

-- to the data's end, which no run is at before its first turn, or to a number of turns that no data reaches
pub record RanOut (ready : ℕ) (r : Progress) : Type 0 where
  pub turns : ℕ
  pub ran : Ran ready turns r
  pub ended : ((1 ≤ turns) × (r.stage ≡ Ended)) ⊎ (turns ≡ 1000000)

-- each of the cases was right
abbrev pub AllRight : {ready n : ℕ} {r : Progress} → Ran ready n r → Type 0
AllRight not_yet = Unit {0}
AllRight (further {file = file} ran t) = AllRight ran × IfSome (case_at t.next.stage) (CaseRight t.next file t.case)
