-- What a turn adds to the counts, and what a count of 0 says.
use Rattle.std.proofs.Common.{ℕ, ◌+◌, ◌≤◌, ◌≡◌, ◌↔◌, refl, sym, ap, ◌∙◌, Bool, true, false, cond, List, Option, Some, None, is_some, IfSome, length, arith}
use Rattle.cases.specs.declared.case.Case.{Case}
use Rattle.cases.specs.declared.progress.Progress.{Progress}
use Rattle.cases.specs.Progress.{judged_as, case_at}
use Rattle.cases.proofs.Counting.{advanced_counts, judged_counts}
use Rattle.try_vectors.specs.Running.{CaseRight, Turned, Ran, not_yet, further, AllRight}

answer_counts : (p : Progress) (more right : Bool)
    → ((cond more (judged_as p right) p).length ≡ p.length) × ((cond more (judged_as p right) p).cases ≡ p.cases) × ((cond more (judged_as p right) p).wrong ≤ p.wrong + 1)
answer_counts p true right = judged_counts p right
answer_counts p false right = (refl, refl, omega arith)

pub turned_counts : (p r : Progress) (file : List ℕ) → Turned p r file → (r.length ≤ length file) × (r.cases ≤ p.cases + 1) × (r.wrong ≤ p.wrong + 1)
turned_counts p r file t =
    let q = t.next in
    let a = advanced_counts p q file t.case t.advanced in
    let s = t.advanced.sound.file_within.0 in
    let n = answer_counts q (is_some (case_at q.stage)) t.right in
    rw t.answer (omega arith, omega arith, omega arith)

-- where none is counted as wrong, a case that there is was right
none_more : (q : Progress) (case : Option Case) (right : Bool) (P : Case → Type 0)
    → (cond (is_some case) (judged_as q right) q).wrong ≡ 0 → IfSome case (λ c. (right ≡ true) ↔ P c) → (q.wrong ≡ 0) × IfSome case P
none_more q (Some c) true P e j = (e, j.0 refl)
none_more q (Some c) false P e j = absurd (omega arith)
none_more q None right P e j = (e, tt)

-- a summary with 0 wrong: document 01's answers are those of every case
pub none_wrong : {ready n : ℕ} {r : Progress} (ran : Ran ready n r) → r.wrong ≡ 0 → AllRight ran
none_wrong not_yet e = tt
none_wrong (further {p = p} {file = file} ran t) e =
    let q = t.next in
    let w = none_more q (case_at q.stage) t.right (CaseRight q file t.case) (ap (λ (x : Progress). x.wrong) (sym t.answer) ∙ e) t.judged in
    (none_wrong ran (sym (advanced_counts p q file t.case t.advanced).1 ∙ w.0), w.1)
