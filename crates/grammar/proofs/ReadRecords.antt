-- The model's reading of the rules in two parts: the records, then the whole.
use Prim.Native.Nat.{ℕ, zero, suc, ◌+◌, ◌≤◌}
use mathlib.Core.Path.{◌≡◌, refl, sym, ap, ◌∙◌}
use mathlib.Core.Bool.{◌&&◌}
use mathlib.Core.List.{List, [], ◌∷◌, ◌++◌}
use mathlib.Core.Option.{Option, none, some}
use native.Mathlib.Nat.{add-zero}
use native.Mathlib.Omega.{arith}
use lib.Dec.{T, eqb}
use lib.ListN.{length, length-append}
use borrow.Author.Tests.{eq-eqb, le-leb}
use Rattle.model.specs.Bounds.{most_rules}
use Rattle.model.specs.Words.{within}
use Rattle.model.specs.Trees.{Rule, ranks_of}
use Rattle.model.specs.Refusals.{Refusal, Result, taken, refused, first_of}
use Rattle.model.specs.File.{rule_in, rule_refusals, after_record, read_rules, read_whole}
use Rattle.laws.specs.Formed.{formed, formed_on, start_rank}
use mir.Facts.{yes_and}
use Rattle.laws.proofs.Trees.Grammar.{formed_on_snoc, start_rank_snoc, rule_passed}
use Rattle.grammar.specs.Meaning.{read_records, after_rules}

pub records_refused : (due : ℕ) (done : List Rule) (bytes : List ℕ) (x : Refusal) (k : ℕ)
    → read_records due done bytes ≡ refused x k → read_rules due done bytes ≡ refused x k
records_refused zero done bytes x k e = absurd (let z : ◌≡◌ {A = ℕ} 0 1 = cc in omega arith)
records_refused (suc due) done bytes x k e = go (first_of (rule_refusals (ranks_of done) (eqb due 0) bytes)) e (records_refused due (done ++ rule_in bytes ∷ []) (after_record bytes) x k)
  where
    go : (o : Option Refusal)
        → ◌≡◌ {A = Result (List Rule)} (elim o [ some y ↦ refused y (suc (length done)) | none ↦ read_records due (done ++ rule_in bytes ∷ []) (after_record bytes) ]) (refused x k)
        → (read_records due (done ++ rule_in bytes ∷ []) (after_record bytes) ≡ refused x k → read_rules due (done ++ rule_in bytes ∷ []) (after_record bytes) ≡ refused x k)
        → ◌≡◌ {A = Result (List Rule)} (elim o [ some y ↦ refused y (suc (length done)) | none ↦ read_rules due (done ++ rule_in bytes ∷ []) (after_record bytes) ]) (refused x k)
    go (some y) q rec = q
    go none q rec = rec q

pub records_taken : (due : ℕ) (done : List Rule) (bytes : List ℕ) (rules : List Rule)
    → read_records due done bytes ≡ taken rules → read_rules due done bytes ≡ read_whole rules (after_rules due bytes)
records_taken zero done bytes rules e = let q : done ≡ rules = cc in ap (λ (rs : List Rule). read_whole rs bytes) q
records_taken (suc due) done bytes rules e = go (first_of (rule_refusals (ranks_of done) (eqb due 0) bytes)) e (records_taken due (done ++ rule_in bytes ∷ []) (after_record bytes) rules)
  where
    go : (o : Option Refusal)
        → ◌≡◌ {A = Result (List Rule)} (elim o [ some y ↦ refused y (suc (length done)) | none ↦ read_records due (done ++ rule_in bytes ∷ []) (after_record bytes) ]) (taken rules)
        → (read_records due (done ++ rule_in bytes ∷ []) (after_record bytes) ≡ taken rules
        → read_rules due (done ++ rule_in bytes ∷ []) (after_record bytes) ≡ read_whole rules (after_rules due (after_record bytes)))
        → ◌≡◌ {A = Result (List Rule)} (elim o [ some y ↦ refused y (suc (length done)) | none ↦ read_rules due (done ++ rule_in bytes ∷ []) (after_record bytes) ])
        (read_whole rules (after_rules due (after_record bytes)))
    go (some y) q rec = absurd (let z : ◌≡◌ {A = ℕ} 0 1 = cc in omega arith)
    go none q rec = rec q

-- rules whose records were taken obey document 01, and the last is of rank 0
record RecordsOn (done : List Rule) (due : ℕ) (rules : List Rule) : Type 0 where
  pub count : length rules ≡ length done + due
  pub is_formed : T (formed_on [] rules)
  pub start : start_rank rules ≡ 0

records_on : (due : ℕ) (done : List Rule) (bytes : List ℕ) (rules : List Rule) → read_records due done bytes ≡ taken rules → T (formed_on [] done) → (due ≡ 0 → start_rank done ≡ 0)
    → RecordsOn done due rules
records_on zero done bytes rules e f s = let q : done ≡ rules = cc in rw (← q) (record { count = sym (add-zero (length done)); is_formed = f; start = s refl })
records_on (suc due) done bytes rules e f s = go (first_of (rule_refusals (ranks_of done) (eqb due 0) bytes)) refl e (records_on due (done ++ rule_in bytes ∷ []) (after_record bytes) rules)
  where
    go : (o : Option Refusal) → first_of (rule_refusals (ranks_of done) (eqb due 0) bytes) ≡ o
        → elim o [ some x ↦ refused x (suc (length done)) | none ↦ read_records due (done ++ rule_in bytes ∷ []) (after_record bytes) ] ≡ taken rules
        → (read_records due (done ++ rule_in bytes ∷ []) (after_record bytes) ≡ taken rules → T (formed_on [] (done ++ rule_in bytes ∷ [])) → (due ≡ 0 → start_rank (done ++ rule_in bytes ∷ []) ≡ 0)
        → RecordsOn (done ++ rule_in bytes ∷ []) due rules)
        → RecordsOn done (suc due) rules
    go (some x) y q rec = absurd (let z : ◌≡◌ {A = ℕ} 0 1 = cc in omega arith)
    go none y q rec =
        let p = rule_passed (ranks_of done) (eqb due 0) bytes y in
        let r = rec q (formed_on_snoc [] done (rule_in bytes) f p.0) (λ d. start_rank_snoc done (rule_in bytes) ∙ p.1 (eq-eqb due 0 d)) in
        record { count = r.count ∙ simp length-append (omega arith); is_formed = r.is_formed; start = r.start }

pub records_formed : (n : ℕ) (bytes : List ℕ) (rules : List Rule) → 1 ≤ n → n ≤ 256 → read_records n [] bytes ≡ taken rules → T (formed rules) × (length rules ≡ n)
records_formed n bytes rules l h e =
    let r = records_on n [] bytes rules e tt (λ z. absurd (omega arith)) in
    let c : length rules ≡ n = omega (arith, r.count) in (
      yes_and (within 1 most_rules (length rules) && eqb (start_rank rules) 0) (formed_on [] rules)
          (yes_and (within 1 most_rules (length rules)) (eqb (start_rank rules) 0) (rw (le-leb 1 (length rules) (omega arith), le-leb (length rules) 256 (omega arith)) tt) (rw r.start tt)) r.is_formed,
      c,
    )
