-- The whole of a file whose records were taken, by what measuring leaves in the size table.
use Prim.Native.Nat.{ℕ, ◌+◌, ◌*◌, ◌-◌, ◌≤◌}
use mathlib.Core.Path.{◌≡◌, sym, ap, subst, ◌∙◌}
use mathlib.Core.List.{List, []}
use mathlib.Core.Option.{none}
use native.Mathlib.Omega.{arith}
use lib.Dec.{T}
use lib.ListN.{length, replicate}
use Rattle.model.specs.Trees.{Rule, expansions, nodes, lowest_huge}
use Rattle.laws.specs.Formed.{formed}
use Rattle.laws.proofs.Trees.Grammar.{formed_parts, expansions_solve}
use Rattle.laws.proofs.Sizes.Gaps.{none_huge}
use Rattle.std.specs.Prelude.{Ok, Err, Result as Outcome}
use Rattle.model.specs.Refusals.{refused}
use Rattle.model.specs.File.{read_whole}
use Rattle.grammar.specs.declared.refusals.Refused.{Refused}
use Rattle.grammar.specs.Meaning.{padded, refusal_is}
use Rattle.grammar.proofs.ReadLaws.{whole_huge}
use Rattle.grammar.specs.Measures.{MeasuredIs, SizesSmall, first_gaps, gap_rows}
use Rattle.grammar.proofs.Padding.{length_padded, over_filler}
use Rattle.grammar.proofs.Rows.{length_rows}
use Rattle.grammar.proofs.Promise.{small_table, nodes_there}

-- every rule fits, and the size table has their gaps, those of the start rule among them
pub record Filled (rules : List Rule) (n : ℕ) (before after : List ℕ) : Type 0 where
  pub none_over : lowest_huge 0 (expansions rules) ≡ none
  pub gaps : after ≡ padded 0 (length before) (gap_rows (expansions rules))
  pub as_long : length after ≡ length before
  pub small : SizesSmall after
  pub some_rule : 1 ≤ n
  pub room : 5 * (n - 1) + 5 ≤ length after
  pub counted : first_gaps after (n - 1) 5 ≡ nodes rules

module _ (rules : List Rule) (f : T (formed rules)) (n : ℕ) (count : length rules ≡ n) {A : Type 0} (m : Outcome A Refused) (before after : List ℕ) (p : MeasuredIs m rules before after) where
  pub huge_there : (x : Refused) → m ≡ Err x → read_whole rules [] ≡ refused (refusal_is x.refusal) x.place
  huge_there x e =
      let q : MeasuredIs {A = A} (Err x) rules before after = subst (λ (y : Outcome A Refused). MeasuredIs y rules before after) e p in
      whole_huge rules q.0 q.1 ∙ ap (λ (y : Refused). refused (refusal_is y.refusal) y.place) (sym q.2)

  pub filled : {a : A} → m ≡ Ok a → before ≡ replicate (length before) 0 → 1280 ≤ length before → Filled rules n before after
  filled {a} e zero_table long =
      let rows = gap_rows (expansions rules) in
      let q : MeasuredIs {A = A} (Ok a) rules before after = subst (λ (x : Outcome A Refused). MeasuredIs x rules before after) e p in
      let one : 1 ≤ n = omega (arith, (formed_parts rules f).some) in
      let few : n ≤ 256 = omega (arith, (formed_parts rules f).not_many) in
      let many : length rows ≤ length before = omega (arith, length_rows (expansions rules), (expansions_solve rules f).0) in
      let gaps : after ≡ padded 0 (length before) rows = q.1 ∙ over_filler 0 before rows zero_table many in
      let as_long : length after ≡ length before = ap length gaps ∙ length_padded 0 (length before) rows many in
      record {
        none_over = q.0;
        gaps = gaps;
        as_long = as_long;
        small = subst SizesSmall (sym gaps) (small_table (length before) (expansions rules) (none_huge 0 (expansions rules) q.0));
        some_rule = one;
        room = omega arith;
        counted =
            ap (λ (t : List ℕ). first_gaps t (n - 1) 5) gaps
            ∙ ap (λ (k : ℕ). first_gaps (padded 0 (length before) rows) (k - 1) 5) (sym count)
            ∙ nodes_there rules f (length before);
      }
