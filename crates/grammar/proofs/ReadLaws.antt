-- The promise of reading, case by case.
use Prim.Native.Nat.{ℕ, suc, ◌+◌}
use mathlib.Core.Path.{◌≡◌, refl, sym, ap, subst, ◌∙◌}
use mathlib.Core.List.{List, [], ◌∷◌}
use mathlib.Core.Option.{none, some}
use native.Mathlib.Numerals.{add-one}
use lib.ListN.{length, replicate}
use borrow.Author.Tests.{eq-eqb, ne_eqb}
use Rattle.model.specs.Trees.{Rule, expansions, nodes, lowest_huge}
use Rattle.model.specs.Refusals.{Result, taken, refused, TRAIL, HUGE, EMPTY}
use Rattle.model.specs.File.{read_whole}
use Rattle.std.specs.Prelude.{Ok, Err}
use Rattle.grammar.specs.declared.refusals.Refused.{Refused}
use Rattle.grammar.specs.declared.rules.Entry.{Entry}
use Rattle.grammar.specs.Meaning.{refusal_is, reading_of, rule_table, padded, entries, no_rule}
use Rattle.grammar.specs.Measures.{size_table, gap_rows, Stand, ReadIs}

module _ (file : List ℕ) (m : Result (List Rule)) (table table' : List Entry) (sizes sizes' : List ℕ) where
  -- a refusal, with both tables cleared
  pub refused_is : (x : Refused) → m ≡ refused (refusal_is x.refusal) x.place → table' ≡ replicate (length table) no_rule → sizes' ≡ replicate (length sizes) 0
      → ReadIs file (Err x) m table table' sizes sizes'
  refused_is x e t s =
      record {
        reading = sym (ap reading_of e);
        rules = t ∙ sym (ap (rule_table (length table)) e);
        gaps = s ∙ sym (ap (size_table (length sizes)) e);
        stands = subst (Stand file) (sym e) tt;
      }

  -- a grammar, with both tables filled
  pub taken_is : (n : ℕ) (rules : List Rule) → m ≡ taken rules → length rules ≡ n → table' ≡ padded no_rule (length table) (entries 18 rules)
      → sizes' ≡ padded 0 (length sizes) (gap_rows (expansions rules)) → Stand file (taken rules) → ReadIs file (Ok n) m table table' sizes sizes'
  taken_is n rules e c t s b =
      record {
        reading = ap taken (sym c) ∙ sym (ap reading_of e);
        rules = t ∙ sym (ap (rule_table (length table)) e);
        gaps = s ∙ sym (ap (size_table (length sizes)) e);
        stands = subst (Stand file) (sym e) b;
      }

-- the whole, when its records were taken
pub whole_huge : (rules : List Rule) (r : ℕ) → lowest_huge 0 (expansions rules) ≡ some r → read_whole rules [] ≡ refused HUGE (r + 1)
whole_huge rules r e = rw (e, read_whole) (ap (refused HUGE) (sym (add-one r)))

module _ (rules : List Rule) (e : lowest_huge 0 (expansions rules) ≡ none) where
  pub whole_empty : nodes rules ≡ 1 → read_whole rules [] ≡ refused EMPTY 0
  whole_empty h = rw (e, eq-eqb (nodes rules) 1 h, read_whole)

  pub whole_taken : (nodes rules ≡ 1 → ⊥) → read_whole rules [] ≡ taken rules
  whole_taken h = rw (e, ne_eqb (nodes rules) 1 h, read_whole)

pub whole_trail : (rules : List Rule) (rest : List ℕ) (n : ℕ) → length rules ≡ n → (rest ≡ [] → ⊥) → read_whole rules rest ≡ refused TRAIL (n + 1)
whole_trail rules [] n e h = absurd (h refl)
whole_trail rules (b ∷ bs) n e h = ap (refused TRAIL) (ap suc e ∙ sym (add-one n))
