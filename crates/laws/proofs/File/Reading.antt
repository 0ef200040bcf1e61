-- A file that the reader takes is a grammar within the bounds: each record met no refusal, and then the whole met none.
use Prim.Native.Nat.{ℕ, zero, suc, ◌+◌, ◌≤◌, ◌<◌}
use mathlib.Core.Path.{◌≡◌, refl, sym, subst, ◌∙◌}
use mathlib.Core.Bool.{not, ◌&&◌}
use mathlib.Core.List.{List, [], ◌∷◌, ◌++◌}
use native.Mathlib.Nat.{zero-add, add-zero}
use native.Mathlib.Omega.{arith}
use borrow.Author.Tests.{ltb-false, eqb-false, eq-eqb}
use mir.Facts.{and_yes, yes_and}
use lib.Dec.{T, eqb}
use lib.ListN.{length, get_or, length-append}
use Rattle.model.specs.Bounds.{largest_size, most_rules}
use Rattle.model.specs.Words.{within}
use Rattle.model.specs.Trees.{Rule, expansions, ranks_of, nodes, size}
use Rattle.model.specs.Refusals.{EMPTY, HEAD, taken}
use Rattle.model.specs.File.{edition_in, record_refusals, rule_in, rule_refusals, read, rule_count, after_record, head_refusals}
use Rattle.laws.specs.Conditions.{NoneHolds, at, huge_conditions, rules_conditions, rules_from, file_rules, read_conditions}
use Rattle.laws.specs.Formed.{formed, formed_on, start_rank}
use Rattle.laws.proofs.Words.Tests.{passed}
use Rattle.laws.proofs.Answers.Conditions.{none_holds_split, none_holds_at, first_of_none}
use Rattle.laws.proofs.Answers.Refusals.{read_taken_iff}
use Rattle.laws.proofs.Trees.Grammar.{Taken, rule_passed, formed_on_snoc, start_rank_snoc, expansions_solve}

-- no size over the bound
none_over : (r : ℕ) (es : List (List ℕ)) → NoneHolds (huge_conditions r es) → (j : ℕ) → j < length es → size (get_or es j []) ≤ largest_size
none_over r [] n j h = absurd (omega arith)
none_over r (e ∷ es) n zero h = ltb-false largest_size (size e) n.0
none_over r (e ∷ es) n (suc j) h = none_over (suc r) es n.1 j (omega arith)

-- reading on from rules that are formed
record ReadOn (done : List Rule) (due : ℕ) (rules : List Rule) : Type 0 where
  pub count : length rules ≡ length done + due
  pub is_formed : T (formed_on [] rules)
  pub start : start_rank rules ≡ 0
  pub sizes : (j : ℕ) → j < length (expansions rules) → size (get_or (expansions rules) j []) ≤ largest_size
  pub not_empty : nodes rules ≡ 1 → ⊥

read_on : (due : ℕ) (done : List Rule) (bytes : List ℕ) → NoneHolds (rules_conditions due done bytes) → T (formed_on [] done) → (due ≡ 0 → start_rank done ≡ 0)
    → ReadOn done due (rules_from due done bytes)
read_on zero done bytes n f s =
    let (huge, empty) = none_holds_split (huge_conditions 0 (expansions done)) ((eqb (nodes done) 1, (EMPTY, 0)) ∷ []) n.1 in
    record {
      count = sym (add-zero (length done));
      is_formed = f;
      start = s refl;
      sizes = none_over 0 (expansions done) huge;
      not_empty = eqb-false (nodes done) 1 empty.0;
    }
read_on (suc due) done bytes n f s =
    let refusals = rule_refusals (ranks_of done) (eqb due 0) bytes in
    let next : List Rule = done ++ rule_in bytes ∷ [] in
    let (here, rest) = none_holds_split (at (suc (length done)) refusals) (rules_conditions due next (after_record bytes)) n in
    let (on, last) = rule_passed (ranks_of done) (eqb due 0) bytes (first_of_none refusals (none_holds_at (suc (length done)) refusals here)) in
    let r = read_on due next (after_record bytes) rest (formed_on_snoc [] done (rule_in bytes) f on) (λ d. start_rank_snoc done (rule_in bytes) ∙ last (eq-eqb due 0 d)) in
    record {
      count = r.count ∙ simp length-append (omega arith);
      is_formed = r.is_formed;
      start = r.start;
      sizes = r.sizes;
      not_empty = r.not_empty;
    }

rules_taken_lem : (file : List ℕ) → NoneHolds (read_conditions file) → Taken (file_rules file)
unfolding read_conditions file_rules
rules_taken_lem file n =
    let (head, rest) = none_holds_split (at 0 (head_refusals file)) (rules_conditions (rule_count file) [] (after_record file)) n.1 in
    let counts = (none_holds_split (record_refusals 1 (λ l. eqb l 4) file) ((not (eqb (edition_in file) 1 && within 1 most_rules (rule_count file)), HEAD) ∷ [])
    (none_holds_at 0 (head_refusals file) head)).1.0 in
    let some : T (within 1 most_rules (rule_count file)) =
    (and_yes (eqb (edition_in file) 1) (within 1 most_rules (rule_count file)) (passed (eqb (edition_in file) 1 && within 1 most_rules (rule_count file)) counts)).1 in
    let r = read_on (rule_count file) [] (after_record file) rest tt (λ z. absurd (subst (λ k. T (within 1 most_rules k)) z some)) in
    let rules = file_rules file in
    let l : length rules ≡ rule_count file = r.count ∙ zero-add (rule_count file) in
    let f : T (formed rules) =
    yes_and (within 1 most_rules (length rules) && eqb (start_rank rules) 0) (formed_on [] rules)
    (yes_and (within 1 most_rules (length rules)) (eqb (start_rank rules) 0) (rw l some) (rw r.start tt)) r.is_formed in
    record { is_formed = f; sizes = λ j h. r.sizes j (omega (arith, (expansions_solve rules f).0)); not_empty = r.not_empty }

pub read_taken : (file : List ℕ) (rules : List Rule) → read file ≡ taken rules → Taken rules
read_taken file rules e = let (n, same) = (read_taken_iff file rules).0 e in subst Taken same (rules_taken_lem file n)
