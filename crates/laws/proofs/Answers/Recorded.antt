-- The program's output holds the updater's answer whole: what it counts fits the 16 bits that the answer record has for it.
use Prim.Native.Nat.{ℕ, ◌-◌, ◌<◌}
use native.Mathlib.Omega.{arith}
use mathlib.Core.Path.{◌≡◌, sym, ap, ap₂, ◌∙◌}
use mathlib.Core.List.{List, ◌++◌}
use lib.Dec.{T}
use lib.ListN.{length, take, replicate}
use lib.Seq.{take-append_seam}
use Rattle.model.specs.Bounds.{largest_file, least_work, most_rules}
use Rattle.model.specs.Trees.{Rule, tree_of}
use Rattle.model.specs.File.{after_record, write}
use Rattle.model.specs.Edits.{Update}
use Rattle.model.specs.Opening.{opened_at}
use Rattle.model.specs.Dropping.{dropped}
use Rattle.model.specs.Answers.{FileAnswer, accepted, refusal, refused_file, edited_start, with_start, remade, update}
use Rattle.model.specs.Program.{update_in, answer_record, program}
use Rattle.laws.specs.Formed.{formed}
use Rattle.laws.specs.Orders.{Suits}
use Rattle.laws.specs.Returned.{UpdateReturns, file_of}
use Rattle.laws.specs.Conditions.{NoneHolds, file_rules, update_conditions, program_conditions, answer_in}
use Rattle.laws.proofs.Answers.Conditions.{decide_none}
use Rattle.laws.proofs.Answers.Refusals.{read_taken_iff, updated_file, update_is, update_exactly}
use Rattle.laws.proofs.Trees.Grammar.{formed_parts}
use Rattle.laws.proofs.File.Reading.{read_taken}
use Rattle.laws.proofs.Opening.Walk.{falls_few}
use Rattle.laws.proofs.Rounds.Rounding.{rounds_count}
use Rattle.laws.proofs.Answers.Returned.{kept_formed, remade_formed, update_returns}
use Rattle.laws.proofs.File.Written.{number_bytes}
use Rattle.laws.proofs.Answers.Program.{accepted_output, program_is, program_exactly}

-- every round makes a rule, and there are 256 at most
pub rounds_few : (rules : List Rule) (f : T (formed rules)) (u : Update) → Suits (tree_of rules) u → (remade rules u).rounds < most_rules
unfolding remade
rounds_few rules f u s =
    let kept = dropped (with_start (edited_start rules u) rules) in
    omega (arith, rounds_count kept (kept_formed rules f u s), (formed_parts kept (kept_formed rules f u s)).some, (formed_parts (remade rules u).rules (remade_formed rules f u s)).not_many)

answer_recorded : (opened rounds : ℕ) (file : List ℕ) → opened < 65536 → rounds < 65536
    → answer_in (answer_record (accepted opened rounds (length file)) ++ file) ≡ accepted opened rounds (length file)
answer_recorded opened rounds file o r = ap₂ (λ (a b : ℕ). accepted a b (length file)) (number_bytes 2 opened (omega (arith, o))) (number_bytes 2 rounds (omega (arith, r)))

-- accepted, the output is the updater's answer, with its counts, and then the file that it returns
pub program_recorded : (input : List ℕ) → (answer_in (program input)).number ≡ 0
    → let x = update largest_file least_work (after_record (take 20495 input)) (update_in (take 20495 input)) in
    (answer_in (program input) ≡ x.answer) × (after_record (program input) ≡ file_of x)
program_recorded input ok = (
  ap answer_in written
      ∙ answer_recorded done.answer.opened done.answer.rounds new
      (omega (arith, opened, falls_few (length old - 1) (opened_at old u.at).opened returns.opened_once, (formed_parts old f).not_many))
      (omega (arith, rounds, rounds_few old f u returns.suits))
      ∙ sym (ap (λ (x : FileAnswer). x.answer) is),
  ap after_record written ∙ sym (ap file_of is ∙ take-append_seam new (replicate (largest_file - length new) 255)),
)
  where
    bytes : List ℕ
    bytes = take 20495 input

    file : List ℕ
    file = after_record bytes

    u : Update
    u = update_in bytes

    none_holds : NoneHolds (program_conditions bytes)
    none_holds = (program_exactly input).accepted_iff.0 ok

    new : List ℕ
    new = write (remade (file_rules file) u).rules

    written : program input ≡ accepted_output bytes
    written = program_is input ∙ decide_none (λ x k. answer_record (refusal x k)) (program_conditions bytes) (accepted_output bytes) none_holds

    done : FileAnswer
    done = updated_file largest_file least_work (file_rules file) u

    is : update largest_file least_work file u ≡ done
    is = update_is largest_file least_work file u ∙ decide_none (refused_file largest_file least_work) (update_conditions largest_file least_work file u) done none_holds.1

    returns : UpdateReturns file u (update largest_file least_work file u)
    returns = update_returns largest_file least_work file u ((update_exactly largest_file least_work file u).accepted_iff.1 none_holds.1)

    old : List Rule
    old = returns.old

    f : T (formed old)
    f = (read_taken file old returns.reads).is_formed

    opened : done.answer.opened ≡ length (opened_at old u.at).opened
    opened = sym (ap (λ (x : FileAnswer). x.answer.opened) is) ∙ returns.opened_is

    rounds : done.answer.rounds ≡ (remade old u).rounds
    rounds = ap (λ (rules : List Rule). (remade rules u).rounds) ((read_taken_iff file old).0 returns.reads).1
