-- A rule of a file that was read, by the two tables: its size, and what stands before each of its parameters.
use Prim.Native.Nat.{ℕ, suc, ◌*◌, ◌-◌, ◌/◌, ◌<◌}
use mathlib.Core.Path.{◌≡◌, refl, sym, ap, ◌∙◌}
use mathlib.Core.Bool.{true, false}
use mathlib.Core.List.{List, [], ◌++◌, append_assoc, append-nil}
use native.Mathlib.Omega.{arith}
use lib.Dec.{T}
use lib.ListN.{length, take, drop, get_or, replicate, take-append-drop}
use Rattle.model.specs.Words.{is_parameter, when_parameter, rank_of}
use Rattle.model.specs.File.{words_in}
use Rattle.model.specs.Trees.{Rule, all, is_legal, gap_sizes, size, expansions, ranks_of}
use Rattle.laws.specs.Formed.{body_at}
use Rattle.laws.specs.Sums.{sum_of, size_before}
use Rattle.laws.proofs.Words.Lists.{all_split}
use Rattle.laws.proofs.Trees.Grammar.{rule_of, formed_env, expansions_solve}
use Rattle.laws.proofs.Sizes.Gaps.{rule_size}
use Rattle.std.specs.Prelude.{Some, None, Option, is_some}
use Rattle.grammar.specs.declared.rules.Entry.{Entry}
use Rattle.grammar.specs.Meaning.{word_in, ranks_in, padded}
use Rattle.grammar.specs.Measures.{own_by, before_by, gap_rows, Laid, RowsBelow}
use Rattle.grammar.proofs.BodyWords.{body_word, words_take}
use Rattle.grammar.proofs.Order.{is_some_parameter}
use Rattle.grammar.proofs.Entered.{BytesOf, ranks_below}
use Rattle.grammar.proofs.Entered.{count as all_count}
use Rattle.grammar.proofs.Agreeing.{Below, sum_same, before_same}
use Rattle.grammar.proofs.GapsFound.{SoFar, passed, before_there}

some_there : (k : Option ℕ) → (k ≡ None → ⊥) → is_some k ≡ true
some_there None z = absurd (z refl)
some_there (Some n) z = refl

module _ {R : List Rule} {file : List ℕ} {rules : List Entry} (M : Laid R file rules) (r : ℕ) (below : r < length rules) where
  pub count : r < length R
  count = omega (arith, all_count M)

  -- the two tables on the rules below
  known : (sizes : List ℕ) (len : ℕ) (more : List ℕ) → sizes ≡ padded 0 len (gap_rows (take r (expansions R)) ++ more)
      → Below (ranks_of R) (expansions R) r (ranks_in (take r rules)) sizes
  known sizes len more e =
      let rows = gap_rows (take r (expansions R)) in
      record {
        env = formed_env R M.is_formed;
        there = omega (arith, (expansions_solve R M.is_formed).0, count);
        small = λ j h. (rule_of R M.is_formed j (omega (arith, count))).rank_small;
        agree = ranks_below M r;
        rest = more ++ replicate (len - length (rows ++ more)) 0;
        rows = e ∙ append_assoc rows more (replicate (len - length (rows ++ more)) 0);
      }

  legal : T (all (is_legal r) (body_at R r))
  legal = (rule_of R M.is_formed r count).legal

  module _ {bytes : List ℕ} (B : BytesOf (body_at R r) bytes) where
    pub size_found : (sizes : List ℕ) → RowsBelow r R sizes → sum_of (own_by sizes 5) (words_in bytes) ≡ size (get_or (expansions R) r [])
    size_found sizes D =
        let k = known sizes (length sizes) [] (D.rows ∙ ap (padded 0 (length sizes)) (sym (append-nil (gap_rows (take r (expansions R)))))) in
        ap (sum_of (own_by sizes 5)) B.is
        ∙ sum_same (ranks_of R) (expansions R) r (ranks_in (take r rules)) sizes k (body_at R r) legal
        ∙ sym (rule_size R M.is_formed r count)

    module _ (i : ℕ) (inside : i < length bytes / 2) where
      pub in_body : i < length (body_at R r)
      in_body = omega (arith, B.many)

      pub word_there : get_or (body_at R r) i 0 ≡ word_in bytes (2 * i)
      word_there = ap (λ (l : List ℕ). get_or l i 0) (sym B.is) ∙ body_word bytes i inside

      pub parameter_is : (w : ℕ) (k : Option ℕ) → w ≡ word_in bytes (2 * i) → k ≡ when_parameter {A = Option ℕ} None (λ i. Some i) w
          → is_parameter (get_or (body_at R r) i 0) ≡ is_some k
      parameter_is w k is number = ap is_parameter (word_there ∙ sym is) ∙ is_some_parameter w ∙ ap is_some (sym number)

      module _ (w : ℕ) (k : Option ℕ) (is : w ≡ word_in bytes (2 * i)) (number : k ≡ when_parameter {A = Option ℕ} None (λ i. Some i) w) where
        pub is_other : k ≡ None → is_parameter (get_or (body_at R r) i 0) ≡ false
        is_other z = parameter_is w k is number ∙ ap is_some z

        pub is_parameter_lem : (k ≡ None → ⊥) → is_parameter (get_or (body_at R r) i 0) ≡ true
        is_parameter_lem z = parameter_is w k is number ∙ some_there k z

      pub before_found : (len last m : ℕ) (sizes : List ℕ) → SoFar R r len i last m sizes → is_parameter (get_or (body_at R r) i 0) ≡ true
          → (b : ℕ) → b ≡ before_by (rank_of (ranks_in (take r rules))) sizes (words_in (take (2 * i) bytes)) → b ≡ size_before (suc (passed R r i)) (get_or (expansions R) r [])
      before_found len last m sizes S p b e =
          let k = known sizes len (take (passed R r i) (gap_sizes (get_or (expansions R) r []))) S.rows in
          let front : words_in (take (2 * i) bytes) ≡ take i (body_at R r) = words_take i bytes ∙ ap (take i) B.is in
          e
          ∙ ap (before_by (rank_of (ranks_in (take r rules))) sizes) front
          ∙ before_same (ranks_of R) (expansions R) r (ranks_in (take r rules)) sizes k (take i (body_at R r))
          (all_split (is_legal r) (take i (body_at R r)) (drop i (body_at R r)) (rw (take-append-drop i (body_at R r)) legal)).0
          ∙ before_there R M.is_formed r count i in_body p
