-- `cases::reports::put_wrong_at` meets its contract: the name, and what follows it.
use Rattle.std.proofs.Common.{◌≡◌, ℕ, List, [], ◌++◌, length, ap, ◌∙◌, append_assoc, arith}
use Rattle.io.proofs.Counting.{prefix_len_of_le}
use Rattle.text.proofs.Putting.{put_then, put_as}
use Rattle.cases.specs.Reports.{wrong_line}
use Rattle.cases.proofs.reports.put_wrong_at.Goals as goal

after_name : (name : List ℕ) (case : ℕ) → name ++ wrong_line [] case ≡ wrong_line name case
after_name name case = simp append_assoc

pub returns : goal.returns
returns c =
    let a = c.args in
    let told = c.deref.ensures.0 ∙ c.put_case.ensures.items ∙ ap (λ (l : List ℕ). wrong_line l a.case) c.new-said.ensures in
    let long = ap length c.deref.ensures.0 in
    let none = ap length c.new-said.ensures in (
      put_as (after_name a.name.now a.case) (put_then c.put_at-end.ensures (put_as told c.put_at.ensures)),
      prefix_len_of_le _ _ (omega (arith, c.put_at-end.ensures.ended, c.put_at.ensures.ended, c.put_case.ensures.len, c.put_at-end.auto.out, c.put_at.auto.out, c.requires)),
    )
