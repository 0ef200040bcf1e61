-- The promise of the layer, as the layers above use it: of a file that is taken, the tables' numbers are the grammar's.
use Prim.Native.Nat.{ℕ, zero, suc, ◌-◌, ◌≤◌, ◌<◌, ◌^◌}
use mathlib.Core.Path.{◌≡◌, refl, sym, ap, subst, ◌∙◌}
use mathlib.Core.List.{List, [], ◌∷◌, ◌++◌}
use native.Mathlib.Omega.{arith}
use lib.Dec.{T}
use lib.ListN.{length, take, get_or, replicate}
use lib.Seq.{take-append-le, take_all}
use Rattle.model.specs.Words.{is_parameter}
use Rattle.model.specs.Trees.{Rule, those, parameters, size, gap_sizes, expansions, ranks_of, nodes, tree_of}
use Rattle.model.specs.Refusals.{Result, taken, refused}
use Rattle.laws.specs.Formed.{formed}
use Rattle.laws.specs.Sums.{sum, size_before}
use Rattle.laws.proofs.Trees.Grammar.{formed_env, expansions_solve, formed_parts, start_rank_last}
use Rattle.laws.proofs.Trees.Fills.{length_parameters_from}
use Rattle.laws.proofs.Sizes.Gaps.{length_size, size_gaps}
use Rattle.laws.proofs.Sizes.Before.{before_last}
use Rattle.model.specs.File.{read}
use Rattle.laws.proofs.File.Reading.{read_taken}
use Rattle.std.specs.Prelude.{Ok, Result as Outcome}
use Rattle.grammar.specs.declared.refusals.Refused.{Refused}
use Rattle.grammar.specs.declared.rules.Entry.{Entry}
use Rattle.grammar.specs.Meaning.{reading_is, reading_of, rule_table, padded, no_rule, entries}
use Rattle.grammar.specs.Measures.{first_gaps, gap_row, gap_rows, SizesSmall, size_table, Stand, ReadIs}
pub use Rattle.grammar.specs.Measures.{Denotes}
use Rattle.grammar.proofs.Rows.{first_is, length_rows}
use Rattle.grammar.proofs.Padding.{zero_at, length_padded}
use Rattle.grammar.proofs.RuleLists.{length_entries}

-- a reading that is taken is of a grammar with as many rules
reading_taken : (n : ℕ) (m : Result (List Rule)) → taken n ≡ reading_of m → (rules : List Rule) × (m ≡ taken rules) × (length rules ≡ n)
reading_taken n (taken rules) e = (rules, refl, cc)
reading_taken n (refused x k) e = absurd (let z : ◌≡◌ {A = ℕ} 0 1 = cc in omega arith)

-- no gap is over its rule's size
one_of_sum : (gs : List ℕ) (i : ℕ) → get_or gs i 0 ≤ sum gs
one_of_sum [] i = omega arith
one_of_sum (g ∷ gs) zero = omega arith
one_of_sum (g ∷ gs) (suc i) = omega (arith, one_of_sum gs i)

small_front : (xs ys : List ℕ) (b : ℕ) → ((i : ℕ) → get_or xs i 0 ≤ b) → ((i : ℕ) → get_or ys i 0 ≤ b) → (i : ℕ) → get_or (xs ++ ys) i 0 ≤ b
small_front [] ys b f g i = g i
small_front (x ∷ xs) ys b f g zero = f zero
small_front (x ∷ xs) ys b f g (suc i) = small_front xs ys b (λ j. f (suc j)) g i

small_zeros : (n b i : ℕ) → get_or (replicate n 0) i 0 ≤ b
small_zeros n b i = omega (arith, zero_at n i)

small_take : (k : ℕ) (xs : List ℕ) (b : ℕ) → ((i : ℕ) → get_or xs i 0 ≤ b) → (i : ℕ) → get_or (take k xs) i 0 ≤ b
small_take zero xs b f i = omega arith
small_take (suc k) [] b f i = omega arith
small_take (suc k) (x ∷ xs) b f zero = f zero
small_take (suc k) (x ∷ xs) b f (suc i) = small_take k xs b (λ j. f (suc j)) i

small_row : (e : List ℕ) (b : ℕ) → size e ≤ b → (i : ℕ) → get_or (gap_row e) i 0 ≤ b
small_row e b h =
    small_take 5 (gap_sizes e ++ replicate 5 0) b
    (small_front (gap_sizes e) (replicate 5 0) b (λ i. omega (arith, one_of_sum (gap_sizes e) i, size_gaps e)) (small_zeros 5 b))

small_rows : (es : List (List ℕ)) (b : ℕ) → ((j : ℕ) → j < length es → size (get_or es j []) ≤ b) → (i : ℕ) → get_or (gap_rows es) i 0 ≤ b
small_rows [] b f i = omega arith
small_rows (e ∷ es) b f i = small_front (gap_row e) (gap_rows es) b (small_row e b (f 0 (omega arith))) (small_rows es b (λ j h. f (suc j) (omega arith))) i

pub small_table : (len : ℕ) (es : List (List ℕ)) → ((j : ℕ) → j < length es → size (get_or es j []) ≤ 2 ^ 40) → SizesSmall (padded 0 len (gap_rows es))
small_table len es f = small_front (gap_rows es) (replicate (len - length (gap_rows es)) 0) (2 ^ 40) (small_rows es (2 ^ 40) f) (small_zeros (len - length (gap_rows es)) (2 ^ 40))

module _ (rules : List Rule) (f : T (formed rules)) (len : ℕ) where
  -- the first gaps of a rule, by the table
  gaps_of_lem : (j k : ℕ) → j < length rules → k ≤ 5 → first_gaps (padded 0 len (gap_rows (expansions rules))) j k ≡ size_before k (get_or (expansions rules) j [])
  gaps_of_lem j k h l = first_is (expansions rules) (replicate (len - length (gap_rows (expansions rules))) 0) j k (omega (arith, (expansions_solve rules f).0)) l

  pub all_gaps : (j : ℕ) → j < length rules → get_or (ranks_of rules) j 0 ≤ 4 → first_gaps (padded 0 len (gap_rows (expansions rules))) j 5 ≡ size (get_or (expansions rules) j [])
  all_gaps j h r =
      gaps_of_lem j 5 h (omega arith)
      ∙ before_last 5 (get_or (expansions rules) j []) (omega (arith, ap length (formed_env rules f j), few (get_or (ranks_of rules) j 0)))
    where
      few : (k : ℕ) → length (parameters k) ≡ k
      few k = length_parameters_from 1 k

  -- N, by the table
  pub nodes_there : first_gaps (padded 0 len (gap_rows (expansions rules))) (length rules - 1) 5 ≡ nodes rules
  nodes_there = all_gaps (length rules - 1) (omega (arith, (formed_parts rules f).some)) (omega (arith, rank0)) ∙ sym whole
    where
      rank0 : get_or (ranks_of rules) (length rules - 1) 0 ≡ 0
      rank0 = sym (start_rank_last rules (formed_parts rules f).some) ∙ (formed_parts rules f).start_rank_lem

      none : those is_parameter (tree_of rules) ≡ []
      none = formed_env rules f (length rules - 1) ∙ ap parameters rank0

      whole : nodes rules ≡ size (tree_of rules)
      whole = omega (arith, length_size (tree_of rules), ap length none)

module _ (file : List ℕ) (n : ℕ) (r : Outcome ℕ Refused) (table table' : List Entry) (sizes sizes' : List ℕ) (e : r ≡ Ok n) (p : ReadIs file r (read file) table table' sizes sizes')
    (long : 256 ≤ length table) (longer : 1280 ≤ length sizes) where
  pub taking : (rules : List Rule) × (read file ≡ taken rules) × (length rules ≡ n)
  taking = reading_taken n (read file) (sym (ap reading_is e) ∙ p.reading)

  few_rules : length taking.0 ≤ 256
  few_rules = (formed_parts taking.0 (read_taken file taking.0 taking.1).is_formed).not_many

  pub table_front : take n table' ≡ entries 18 taking.0
  table_front =
      let es = entries 18 taking.0 in
      let k : n ≡ length es = omega (arith, length_entries 18 taking.0, taking.2) in
      ap (λ (m : ℕ). take m table') k
      ∙ ap (take (length es)) (p.rules ∙ ap (rule_table (length table)) taking.1)
      ∙ take-append-le (length es) es (replicate (length table - length es) no_rule) (omega arith)
      ∙ take_all (length es) es (omega arith)

  pub within_table : n ≤ length table'
  within_table =
      omega (
        arith,
        few_rules,
        taking.2,
        ap length (p.rules ∙ ap (rule_table (length table)) taking.1)
            ∙ length_padded no_rule (length table) (entries 18 taking.0) (omega (arith, length_entries 18 taking.0, few_rules)),
      )

  sizes_as_long : length sizes' ≡ length sizes
  sizes_as_long =
      ap length (p.gaps ∙ ap (size_table (length sizes)) taking.1)
      ∙ length_padded 0 (length sizes) (gap_rows (expansions taking.0))
      (omega (arith, length_rows (expansions taking.0), (expansions_solve taking.0 (read_taken file taking.0 taking.1).is_formed).0, few_rules))

  pub denotes : Denotes file (take n table') sizes'
  denotes =
      let rs = taking.0 in
      let t = read_taken file rs taking.1 in
      let q = formed_parts rs t.is_formed in
      let s = subst (Stand file) taking.1 p.stands in
      let gs : sizes' ≡ padded 0 (length sizes') (gap_rows (expansions rs)) =
      p.gaps ∙ ap (size_table (length sizes)) taking.1 ∙ ap (λ (k : ℕ). padded 0 k (gap_rows (expansions rs))) (sym sizes_as_long) in
      let bound : (j : ℕ) → j < length (expansions rs) → size (get_or (expansions rs) j []) ≤ 2 ^ 40 =
      λ j h. t.sizes j (omega (arith, (expansions_solve rs t.is_formed).0)) in
      record {
        rules = rs;
        is = taking.1;
        is_formed = t.is_formed;
        bounded = t.sizes;
        some = q.some;
        few = q.not_many;
        entered = table_front;
        longer = omega (arith, sizes_as_long);
        gaps = gs;
        small = subst SizesSmall (sym gs) (small_table (length sizes') (expansions rs) bound);
        bodies = s.0;
        within = s.1;
        short = s.2;
      }

  -- as many rules as were counted
  pub denoted_many : length (denotes.rules) ≡ n
  unfolding denotes taking
  denoted_many = taking.2

  pub count_bounds : (1 ≤ n) × (n ≤ 256)
  count_bounds =
      (omega (arith, (formed_parts taking.0 (read_taken file taking.0 taking.1).is_formed).some, taking.2), omega (arith, few_rules, taking.2))

  -- N, by the size table
  pub nodes_read : first_gaps sizes' (n - 1) 5 ≡ nodes (denotes.rules)
  unfolding denotes taking
  nodes_read =
      ap (λ (t : List ℕ). first_gaps t (n - 1) 5) denotes.gaps
      ∙ ap (λ (k : ℕ). first_gaps (padded 0 (length sizes') (gap_rows (expansions taking.0))) (k - 1) 5) (sym taking.2)
      ∙ nodes_there taking.0 denotes.is_formed (length sizes')
