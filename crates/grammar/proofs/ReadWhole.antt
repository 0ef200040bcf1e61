-- The model's reading of a file, case by case: too large, a head that is refused, and the rules after the head.
use Prim.Native.Nat.{ℕ, ◌+◌, ◌≤◌, ◌<◌}
use mathlib.Core.Path.{◌≡◌, sym, ap, ◌∙◌}
use mathlib.Core.Bool.{true}
use mathlib.Core.List.{List, []}
use mathlib.Core.Option.{none}
use native.Mathlib.Omega.{arith}
use lib.Dec.{leb, eqb}
use lib.ListN.{length, drop}
use borrow.Author.Tests.{lt-ltb, le-ltb, eqb-true, ltb-false, leb-true, not-false}
use Rattle.model.specs.Bounds.{largest_file, most_rules}
use Rattle.model.specs.Words.{within}
use Rattle.model.specs.Refusals.{Refusal, taken, refused, first_of, LARGE}
use Rattle.model.specs.File.{read, read_rules, payload_length, edition_in, rule_count, after_record, head_refusals}
use Rattle.laws.proofs.Answers.Conditions.{first_of_none_iff}
use Rattle.grammar.specs.Meaning.{head_result}
use Rattle.grammar.proofs.Tests.{both_true}
use Rattle.grammar.proofs.Refusing.{unless_taken, unless_refused_lem}

pub read_large : (file : List ℕ) → 16384 < length file → read file ≡ refused LARGE 0
unfolding read
read_large file h = rw (lt-ltb largest_file (length file) h, read)

module _ (file : List ℕ) (h : length file ≤ 16384) where
  pub read_head : (x : Refusal) → head_result file ≡ refused x 0 → read file ≡ refused x 0
  unfolding read
  read_head x e = rw (le-ltb largest_file (length file) h, unless_refused_lem (rule_count file) (first_of (head_refusals file)) x 0 e, read)

  module _ (n : ℕ) (e : head_result file ≡ taken n) where
    answer : (first_of (head_refusals file) ≡ none) × (rule_count file ≡ n)
    answer = unless_taken (rule_count file) n (first_of (head_refusals file)) e

    counts : within 1 most_rules (rule_count file) ≡ true
    counts = (both_true (eqb (edition_in file) 1) (within 1 most_rules (rule_count file)) (not-false _ ((first_of_none_iff (head_refusals file)).0 answer.0).1.1.1.1.0)).1

    four : payload_length file ≡ 4
    four = eqb-true (payload_length file) 4 (not-false _ ((first_of_none_iff (head_refusals file)).0 answer.0).1.1.0)

    pub counted : n ≡ rule_count file
    counted = sym answer.1

    pub head_bounds : (10 ≤ length file) × (1 ≤ n) × (n ≤ 256)
    head_bounds =
        let c = answer.1 in
        let w = both_true (leb 1 (rule_count file)) (leb (rule_count file) 256) counts in
        let l : 1 ≤ rule_count file = leb-true _ _ w.0 in
        let m : rule_count file ≤ 256 = leb-true _ _ w.1 in
        let b : 6 + payload_length file ≤ length file = ltb-false _ _ ((first_of_none_iff (head_refusals file)).0 answer.0).1.1.1.0 in
        (omega (arith, four), omega arith, omega arith)

    pub read_rules_lem : read file ≡ read_rules n [] (drop 10 file)
    unfolding read
    read_rules_lem =
        rw (le-ltb largest_file (length file) h, answer.0, read)
        (ap (λ (k : ℕ). read_rules k [] (after_record file)) answer.1
        ∙ ap (λ (k : ℕ). read_rules n [] (drop (6 + k) file)) four)
