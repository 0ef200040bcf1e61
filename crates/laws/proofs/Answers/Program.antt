-- The program: it refuses exactly under its conditions, its output holds the answer, and the bytes that it reads are enough.
use Prim.Native.Nat.{ℕ, zero, suc, ◌+◌, ◌-◌, ◌≤◌, ◌<◌}
use native.Mathlib.Omega.{arith}
use mathlib.Core.Path.{◌≡◌, refl, sym, ap, ap₂, ◌∙◌, subst}
use mathlib.Core.Logic.{⊎_elim}
use mathlib.Core.Bool.{Bool, true, false, cond, not, ◌&&◌, ◌||◌}
use mathlib.Core.List.{List, [], ◌∷◌, ◌++◌}
use lib.Dec.{T, leb, ltb, eqb, leb→le, eqb→eq, lit≤}
use lib.ListN.{length, take, drop, replicate, length-append, length-drop, take-append-drop}
use lib.Seq.{take-append_seam, take-append-le, drop-append-le, take_all, length-take-le}
use borrow.Author.Tests.{le-ltb, lt-ltb, leb-true, leb-false}
use mir.Facts.{and_yes, or_yes}
use Rattle.model.specs.Bounds.{largest_file, least_work, most_rules}
use Rattle.model.specs.Words.{within}
use Rattle.model.specs.Trees.{Rule, ranks_of, expansions, tree_of, nodes}
use Rattle.model.specs.Refusals.{Refusal, LARGE, EMPTY, REQUEST, WORK, number_of, place_of}
use Rattle.model.specs.File.{is_even, payload_length, kind_in, number_in, edition_in, rule_count, rule_in, after_record, head_refusals, rule_refusals, write}
use Rattle.model.specs.Edits.{Update}
use Rattle.model.specs.Answers.{Answer, FileAnswer, refusal, refused_file, update_refusals, file_refusals, remade, update}
use Rattle.model.specs.Program.{request_allowed, request_refused, update_in, answer_record, output, run_on, program}
use Rattle.laws.specs.Conditions.{NoneHolds, First, Condition, at, decide, huge_conditions, rules_conditions, file_rules, read_conditions, update_conditions, program_conditions, answer_in, Exactly}
use Rattle.laws.proofs.Answers.Conditions.{decide_cons, decide_map, decide_cases, decide_first}
use Rattle.laws.proofs.File.Written.{number_bytes}
use Rattle.laws.proofs.Answers.Refusals.{number_of_small, updated_file, update_is, exactly}
use Rattle.laws.proofs.Words.Tests.{true_T, passed}
use Rattle.laws.proofs.Trees.Grammar.{length_expansions_on}

-- each record number up to the first condition that holds is at most n
abbrev Until : ℕ → List Condition → Type 0
Until n [] = Unit {0}
Until n (c ∷ cs) = (c.1.1 ≤ n) × (c.0 ≡ false → Until n cs)

until_append : (n : ℕ) (cs ds : List Condition) → Until n cs → (NoneHolds cs → Until n ds) → Until n (cs ++ ds)
until_append n [] ds u v = v tt
until_append n (c ∷ cs) ds u v = (u.0, λ e. until_append n cs ds (u.1 e) (λ h. v (e, h)))

until_at : (n k : ℕ) (cs : List (Bool × Refusal)) → k ≤ n → Until n (at k cs)
until_at n k [] h = tt
until_at n k (c ∷ cs) h = (h, λ e. until_at n k cs h)

first_until : (n : ℕ) (cs : List Condition) (x : Refusal) (k : ℕ) → Until n cs → First (x, k) cs → k ≤ n
first_until n cs x k u f = go f.0 f.3 (subst (Until n) f.2 u)
  where
    go : (before : List Condition) → NoneHolds before → Until n (before ++ (true, (x, k)) ∷ f.1) → k ≤ n
    go [] h v = v.0
    go (c ∷ cs) h v = go cs h.1 (v.1 h.0)

huge_until : (r : ℕ) (es : List (List ℕ)) → r + length es ≤ 256 → Until 257 (huge_conditions r es)
huge_until r [] h = tt
huge_until r (e ∷ es) h = (omega arith, λ z. huge_until (suc r) es (omega arith))

rules_until : (due : ℕ) (rules : List Rule) (bytes : List ℕ) → length rules + due ≤ 256 → Until 257 (rules_conditions due rules bytes)
rules_until zero rules bytes h = (
  omega arith,
  λ z. until_append 257 (huge_conditions 0 (expansions rules)) ((eqb (nodes rules) 1, (EMPTY, 0)) ∷ [])
      (huge_until 0 (expansions rules) (omega (arith, length_expansions_on (ranks_of rules) [] rules))) (λ n. (omega arith, λ z. tt)),
)
rules_until (suc due) rules bytes h =
    until_append 257 (at (suc (length rules)) (rule_refusals (ranks_of rules) (eqb due 0) bytes)) (rules_conditions due (rules ++ rule_in bytes ∷ []) (after_record bytes))
    (until_at 257 (suc (length rules)) (rule_refusals (ranks_of rules) (eqb due 0) bytes) (omega arith))
    (λ n. rules_until due (rules ++ rule_in bytes ∷ []) (after_record bytes) (omega (arith, length-append rules (rule_in bytes ∷ []))))

read_until : (file : List ℕ) → Until 257 (read_conditions file)
unfolding read_conditions
read_until file = (
  omega arith,
  λ z. until_append 257 (at 0 (head_refusals file)) (rules_conditions (rule_count file) [] (after_record file))
      (until_at 257 0 (head_refusals file) (omega arith))
      (λ h. rules_until (rule_count file) [] (after_record file) (omega (arith, count h.1.1.1.1.0))),
)
  where
    count : not (eqb (edition_in file) 1 && within 1 most_rules (rule_count file)) ≡ false → rule_count file ≤ most_rules
    count e =
        let t : T (eqb (edition_in file) 1 && within 1 most_rules (rule_count file)) = passed (eqb (edition_in file) 1 && within 1 most_rules (rule_count file)) e in
        leb→le (rule_count file) most_rules (and_yes (leb 1 (rule_count file)) (leb (rule_count file) most_rules) (and_yes (eqb (edition_in file) 1) (within 1 most_rules (rule_count file)) t).1).1

update_until : (room work : ℕ) (file : List ℕ) (u : Update) → Until 257 (update_conditions room work file u)
update_until room work file u = (
  omega arith,
  λ z. until_append 257 (read_conditions file ++ at 0 (update_refusals (tree_of (file_rules file)) u)) (at 0 (file_refusals room (write (remade (file_rules file) u).rules)))
      (until_append 257 (read_conditions file) (at 0 (update_refusals (tree_of (file_rules file)) u)) (read_until file)
      (λ h. until_at 257 0 (update_refusals (tree_of (file_rules file)) u) (omega arith)))
      (λ h. until_at 257 0 (file_refusals room (write (remade (file_rules file) u).rules)) (omega arith)),
)

-- what the program writes when it accepts: the answer record, then the file
abbrev pub accepted_output : List ℕ → List ℕ
accepted_output bytes =
    let rules = file_rules (after_record bytes) in
    let u = update_in bytes in
    answer_record (updated_file largest_file least_work rules u).answer ++ write (remade rules u).rules

run_is : (bytes : List ℕ) → run_on bytes ≡ decide (program_conditions bytes) (λ x k. answer_record (refusal x k)) (accepted_output bytes)
run_is bytes =
    ap (λ (z : List ℕ). elim (request_refused bytes) [ true ↦ answer_record (refusal REQUEST 0) | false ↦ z ])
    (ap output (update_is largest_file least_work (after_record bytes) u)
    ∙ decide_map (refused_file largest_file least_work) output (update_conditions largest_file least_work (after_record bytes) u) done
    ∙ ap (decide (update_conditions largest_file least_work (after_record bytes) u) (λ x k. answer_record (refusal x k)))
    (ap (λ (l : List ℕ). answer_record done.answer ++ l) (take-append_seam file (replicate (largest_file - length file) 255))))
    ∙ decide_cons (λ x k. answer_record (refusal x k)) (request_refused bytes, (REQUEST, 0)) (update_conditions largest_file least_work (after_record bytes) u) (accepted_output bytes)
  where
    u : Update
    u = update_in bytes

    done : FileAnswer
    done = updated_file largest_file least_work (file_rules (after_record bytes)) u

    file : List ℕ
    file = write (remade (file_rules (after_record bytes)) u).rules

-- a refusal's answer record holds the refusal
refusal_in : (x : Refusal) (k : ℕ) → k ≤ 257 → answer_in (answer_record (refusal x k)) ≡ refusal x k
refusal_in x k h =
    ap₂ (λ (n p : ℕ). made n p) (number_bytes 2 (number_of x) (omega (arith, number_of_small x))) (number_bytes 2 (place_of x k) (omega (arith, small (leb (number_of x) 8 || eqb (number_of x) 10))))
  where
    made : ℕ → ℕ → Answer
    made n p = record { number = n; place = p; opened = 0; rounds = 0; length = 0 }

    small : (b : Bool) → cond b k 0 ≤ k
    small true = omega arith
    small false = omega arith

pub program_is : (input : List ℕ) → program input
    ≡ decide (program_conditions (take 20495 input)) (λ x k. answer_record (refusal x k)) (accepted_output (take 20495 input))
unfolding program
program_is input = run_is (take 20495 input)

-- exactly under its condition: the answer that its output holds
pub program_exactly : (input : List ℕ) → Exactly (program_conditions (take 20495 input)) (answer_in (program input))
program_exactly input =
    exactly answer_in (program_conditions (take 20495 input)) (λ x k. answer_record (refusal x k)) _
    (λ x k f. refusal_in x k (first_until 257 (program_conditions (take 20495 input)) x k
    (omega arith, λ z. update_until largest_file least_work (after_record (take 20495 input)) (update_in (take 20495 input))) f))
    refl refl (program input) (program_is input)

-- "Its output is never empty."
pub program_never_empty : (input : List ℕ) → 14 ≤ length (program input)
program_never_empty input =
    subst (λ (out : List ℕ). 14 ≤ length out) (sym (program_is input))
    (decide_cases (λ x k. answer_record (refusal x k)) (λ out. 14 ≤ length out) (program_conditions (take 20495 input)) _ (λ x k f. omega arith) (λ h. omega arith))

-- "It writes an answer record, kind 3, payload 8 bytes": whatever it reads
pub program_record : (input : List ℕ) → (kind_in (program input) ≡ 3) × (payload_length (program input) ≡ 8)
program_record input =
    subst (λ (out : List ℕ). (kind_in out ≡ 3) × (payload_length out ≡ 8)) (sym (program_is input))
    (decide_cases (λ x k. answer_record (refusal x k)) (λ out. (kind_in out ≡ 3) × (payload_length out ≡ 8)) (program_conditions (take 20495 input)) _ (λ x k f. (refl, refl)) (λ h. (refl, refl)))

allowed_small : (kind l : ℕ) → T (request_allowed kind l) → l ≤ 4104
allowed_small kind l t =
    ⊎_elim
    (λ ab. ⊎_elim
    (λ a. omega (arith, eqb→eq l 10 (and_yes (eqb kind 16) (eqb l 10) a).1))
    (λ b. omega (arith, eqb→eq l 8 (and_yes (eqb kind 17) (eqb l 8) b).1))
    (or_yes (eqb kind 16 && eqb l 10) (eqb kind 17 && eqb l 8) ab))
    (λ c. leb→le l 4104 (and_yes (leb 8 l) (leb l 4104) (and_yes (eqb kind 18 && is_even l) (within 8 4104 l) c).1).1)
    (or_yes (eqb kind 16 && eqb l 10 || eqb kind 17 && eqb l 8) (eqb kind 18 && is_even l && within 8 4104 l) t)

large_refused : (room work : ℕ) (file : List ℕ) (u : Update) → least_work ≤ work → largest_file < length file → update room work file u ≡ refused_file room work LARGE 0
unfolding read_conditions
large_refused room work file u w h =
    update_is room work file u
    ∙ decide_first (refused_file room work) (update_conditions room work file u) (updated_file room work (file_rules file) u) LARGE 0 (
      (ltb work least_work, (WORK, 0)) ∷ [],
      after,
      ap (λ (b : Bool). (ltb work least_work, (WORK, 0)) ∷ (b, (LARGE, 0)) ∷ after) (lt-ltb largest_file (length file) h),
      (le-ltb work least_work w, tt),
    )
  where
    after : List Condition
    after =
        at 0 (head_refusals file) ++ rules_conditions (rule_count file) [] (after_record file)
        ++ at 0 (update_refusals (tree_of (file_rules file)) u) ++ at 0 (file_refusals room (write (remade (file_rules file) u).rules))

-- of so many bytes the request alone decides: an update is refused because its file is too long
run_long : (b : List ℕ) → 20495 ≤ length b → run_on b ≡ answer_record (refusal (cond (request_allowed (kind_in b) (payload_length b)) LARGE REQUEST) 0)
run_long b long = go (request_allowed (kind_in b) (payload_length b)) refl
  where
    ran : Bool → Bool → Bool → List ℕ
    ran short allowed cut =
        elim (short || not allowed || cut) [
          | true ↦ answer_record (refusal REQUEST 0)
          | false ↦ output (update largest_file least_work (after_record b) (update_in b))
        ]

    cut : Bool
    cut = ltb (length b) (6 + payload_length b)

    enough_there : ltb (length b) 6 ≡ false
    enough_there = le-ltb (length b) 6 (omega arith)

    go : (allowed : Bool) → request_allowed (kind_in b) (payload_length b) ≡ allowed → ran (ltb (length b) 6) allowed cut ≡ answer_record (refusal (cond allowed LARGE REQUEST) 0)
    go false e = ap (λ (short : Bool). ran short false cut) enough_there
    go true e =
        let small : payload_length b ≤ 4104 = allowed_small (kind_in b) (payload_length b) (true_T _ e) in
        ap₂ (λ (short over : Bool). ran short true over) enough_there (le-ltb (length b) (6 + payload_length b) (omega arith))
        ∙ ap output (large_refused largest_file least_work (after_record b) (update_in b) (lit≤ tt) (simp length-drop (omega arith)))

same_run : (b r : List ℕ) → 20495 ≤ length b → run_on (b ++ r) ≡ run_on b
same_run b r long =
    run_long (b ++ r) (omega (arith, length-append b r))
    ∙ ap₂ (λ (kind l : ℕ). answer_record (refusal (cond (request_allowed kind l) LARGE REQUEST) 0))
    (ap number_in (ap (take 2) (drop-append-le 4 b r (omega arith)) ∙ take-append-le 2 (drop 4 b) r (simp length-drop (omega arith))))
    (ap number_in (take-append-le 4 b r (omega arith)))
    ∙ sym (run_long b long)

pub enough : (input : List ℕ) → program input ≡ run_on input
unfolding program
enough input = go (leb 20495 (length input)) refl
  where
    go : (b : Bool) → leb 20495 (length input) ≡ b → run_on (take 20495 input) ≡ run_on input
    go true e = sym (same_run (take 20495 input) (drop 20495 input) (omega (arith, length-take-le 20495 input (leb-true 20495 (length input) e)))) ∙ ap run_on (take-append-drop 20495 input)
    go false e = ap run_on (take_all 20495 input (omega (arith, leb-false 20495 (length input) e)))
