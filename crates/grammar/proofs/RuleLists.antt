-- One rule more: the rules read, the table's entries, the places and the bodies of a list of rules and one rule after it.
use Prim.Native.Nat.{ℕ, zero, suc, ◌+◌, ◌-◌, ◌*◌, ◌≤◌, ◌<◌}
use mathlib.Core.Path.{◌≡◌, refl, ap, ◌∙◌}
use mathlib.Core.Bool.{Bool, true, false}
use mathlib.Core.List.{List, [], ◌∷◌, ◌++◌}
use mathlib.Core.Option.{Option, none, some}
use lib.Dec.{eqb}
use native.Mathlib.Omega.{arith}
use lib.ListN.{length, take, drop, set}
use lib.Seq.{sets, sets-eq, take-append-le, take_all}
use borrow.Author.Tests.{eq-eqb, ne_eqb, eqb-true, eqb-false}
use Rattle.model.specs.Refusals.{Refusal, Result, refused, first_of}
use Rattle.model.specs.File.{rule_refusals, rule_in, after_record}
use Rattle.model.specs.Trees.{Rule, ranks_of}
use Rattle.grammar.specs.declared.rules.Entry.{Entry}
use Rattle.grammar.specs.Meaning.{body_in, ranks_in, rules_in, after_rules, read_records, entries, Bodies, place_after}

pub rules_snoc : (r : ℕ) (bytes : List ℕ) → rules_in (suc r) bytes ≡ rules_in r bytes ++ rule_in (after_rules r bytes) ∷ []
rules_snoc zero bytes = refl
rules_snoc (suc r) bytes = ap (λ (rs : List Rule). rule_in bytes ∷ rs) (rules_snoc r (after_record bytes))

pub after_snoc : (r : ℕ) (bytes : List ℕ) → after_rules (suc r) bytes ≡ after_record (after_rules r bytes)
after_snoc zero bytes = refl
after_snoc (suc r) bytes = after_snoc r (after_record bytes)

pub length_rules : (r : ℕ) (bytes : List ℕ) → length (rules_in r bytes) ≡ r
length_rules zero bytes = refl
length_rules (suc r) bytes = ap suc (length_rules r (after_record bytes))

pub entries_snoc : (place : ℕ) (rs : List Rule) (x : Rule)
    → entries place (rs ++ x ∷ []) ≡ entries place rs ++ record { rank = x.rank; place = place_after place rs; words = length x.body } ∷ []
entries_snoc place [] x = refl
entries_snoc place (r ∷ rs) x = ap (λ (l : List Entry). record { rank = r.rank; place = place; words = length r.body } ∷ l) (entries_snoc (place + 2 * length r.body + 8) rs x)

pub length_entries : (place : ℕ) (rs : List Rule) → length (entries place rs) ≡ length rs
length_entries place [] = refl
length_entries place (r ∷ rs) = ap suc (length_entries (place + 2 * length r.body + 8) rs)

pub place_snoc : (place : ℕ) (rs : List Rule) (x : Rule) → place_after place (rs ++ x ∷ []) ≡ place_after place rs + 2 * length x.body + 8
place_snoc place [] x = refl
place_snoc place (r ∷ rs) x = place_snoc (place + 2 * length r.body + 8) rs x

pub bodies_snoc : (file : List ℕ) (place : ℕ) (rs : List Rule) (x : Rule) → Bodies file place rs → body_in file (place_after place rs) (length x.body) ≡ x.body
    → Bodies file place (rs ++ x ∷ [])
bodies_snoc file place [] x b e = (e, tt)
bodies_snoc file place (r ∷ rs) x b e = (b.0, bodies_snoc file (place + 2 * length r.body + 8) rs x b.1 e)

pub sets_append : {A : Type 0} (l : List A) (i : ℕ) (vs ws : List A) → sets l i (vs ++ ws) ≡ sets (sets l i vs) (i + length vs) ws
sets_append l i [] ws = ap (λ (k : ℕ). sets l k ws) (omega arith)
sets_append l i (v ∷ vs) ws = sets_append (set l i v) (suc i) vs ws ∙ ap (λ (k : ℕ). sets (sets (set l i v) (suc i) vs) k ws) (omega arith)

-- the ranks of the entries
pub ranks_of_entries : (place : ℕ) (rs : List Rule) → ranks_in (entries place rs) ≡ ranks_of rs
ranks_of_entries place [] = refl
ranks_of_entries place (r ∷ rs) = ap (λ (l : List ℕ). r.rank ∷ l) (ranks_of_entries (place + 2 * length r.body + 8) rs)

-- entries over the front of a table
pub front_entered : (es table : List Entry) → length es ≤ length table → take (length es) (sets table 0 es) ≡ es
front_entered es table h =
    ap (take (length es)) (sets-eq es table 0 (omega arith))
    ∙ take-append-le (length es) es (drop (0 + length es) table) (omega arith)
    ∙ take_all (length es) es (omega arith)

-- the start rule is the one with none due after it
pub last_due : (n r : ℕ) → r < n → eqb (n - suc r) 0 ≡ eqb (r + 1) n
last_due n r h = go (eqb (r + 1) n) refl
  where
    go : (b : Bool) → eqb (r + 1) n ≡ b → eqb (n - suc r) 0 ≡ b
    go true e = eq-eqb (n - suc r) 0 (omega (arith, eqb-true (r + 1) n e))
    go false e = ne_eqb (n - suc r) 0 (λ q. eqb-false (r + 1) n e (omega arith))

onward : ℕ → Result (List Rule) → Option Refusal → Result (List Rule)
onward k rest o = elim o [ some x ↦ refused x k | none ↦ rest ]

module _ (due : ℕ) (rs : List Rule) (bytes : List ℕ) (last : Bool) (l : eqb due 0 ≡ last) where
  answer_is_lem : (o : Option Refusal) → first_of (rule_refusals (ranks_of rs) last bytes) ≡ o
      → read_records (suc due) rs bytes ≡ onward (suc (length rs)) (read_records due (rs ++ rule_in bytes ∷ []) (after_record bytes)) o
  unfolding onward
  answer_is_lem o e = ap (onward (suc (length rs)) (read_records due (rs ++ rule_in bytes ∷ []) (after_record bytes))) (ap (λ (b : Bool). first_of (rule_refusals (ranks_of rs) b bytes)) l ∙ e)

  pub read_on : first_of (rule_refusals (ranks_of rs) last bytes) ≡ none → read_records (suc due) rs bytes ≡ read_records due (rs ++ rule_in bytes ∷ []) (after_record bytes)
  unfolding onward
  read_on e = answer_is_lem none e

  pub read_refused : (x : Refusal) → first_of (rule_refusals (ranks_of rs) last bytes) ≡ some x → read_records (suc due) rs bytes ≡ refused x (suc (length rs))
  unfolding onward
  read_refused x e = answer_is_lem (some x) e
