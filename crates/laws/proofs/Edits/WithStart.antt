-- "Only the start body changes": with another body for its start rule a grammar stays one, and its tree is that body's expansion on the expansions that were.
use Prim.Native.Nat.{ℕ, zero, suc, ◌-◌, ◌≤◌, ◌<◌}
use mathlib.Core.Path.{◌≡◌, refl, sym, ap, subst, ◌∙◌}
use mathlib.Core.Bool.{Bool, true, false, not}
use mathlib.Core.List.{List, [], ◌∷◌}
use native.Mathlib.Omega.{arith}
use borrow.Author.Tests.{ltb-true, ltb-false}
use lib.Dec.{T, ltb}
use lib.ListN.{length, get_or}
use Rattle.model.specs.Words.{is_parameter, parameter_word}
use Rattle.model.specs.Trees.{Rule, all, those, same, parameters, is_legal, expand, expansions, ranks_of, tree_of, start_of}
use Rattle.model.specs.Answers.{with_start}
use Rattle.laws.specs.Formed.{formed, Tree, body_at}
use Rattle.laws.proofs.Words.Classes.{class_of_parameter}
use Rattle.laws.proofs.Trees.Legal.{expand_agree}
use Rattle.laws.proofs.Trees.Fills.{those_in, parameter_is}
use Rattle.laws.proofs.Trees.Grammar.{RuleOf, rule_of, of_rules, FormedParts, formed_parts, same_eq, expansions_solve, start_last, start_rank_last, tree_of_start}

module _ (body : List ℕ) where
  with_start_length : (rules : List Rule) → length (with_start body rules) ≡ length rules
  with_start_length [] = refl
  with_start_length (r ∷ []) = refl
  with_start_length (r ∷ s ∷ rs) = ap suc (with_start_length (s ∷ rs))

  with_start_ranks : (rules : List Rule) → ranks_of (with_start body rules) ≡ ranks_of rules
  with_start_ranks [] = refl
  with_start_ranks (r ∷ []) = refl
  with_start_ranks (r ∷ s ∷ rs) = ap (λ (l : List ℕ). r.rank ∷ l) (with_start_ranks (s ∷ rs))

  with_start_start : (rules : List Rule) → 1 ≤ length rules → start_of (with_start body rules) ≡ body
  with_start_start [] h = absurd (omega arith)
  with_start_start (r ∷ []) h = refl
  with_start_start (r ∷ s ∷ []) h = refl
  with_start_start (r ∷ s ∷ q ∷ rs) h = with_start_start (s ∷ q ∷ rs) (omega arith)

  -- the rules below the start are as they were
  with_start_below : (rules : List Rule) (j : ℕ) → suc j < length rules → body_at (with_start body rules) j ≡ body_at rules j
  with_start_below [] j h = absurd (omega arith)
  with_start_below (r ∷ []) j h = absurd (omega arith)
  with_start_below (r ∷ s ∷ rs) zero h = refl
  with_start_below (r ∷ s ∷ rs) (suc j) h = with_start_below (s ∷ rs) j (omega arith)

-- a body without parameters is no parameter alone
pub closed_not_alone : (body : List ℕ) → those is_parameter body ≡ [] → T (not (same body (parameter_word 1 ∷ [])))
closed_not_alone body e = go (same body (parameter_word 1 ∷ [])) refl
  where
    go : (b : Bool) → same body (parameter_word 1 ∷ []) ≡ b → T (not b)
    go false s = tt
    go true s =
        let alone : body ≡ parameter_word 1 ∷ [] = same_eq body (parameter_word 1 ∷ []) (rw s tt) in
        let one : those is_parameter (parameter_word 1 ∷ []) ≡ parameter_word 1 ∷ [] =
        those_in is_parameter (parameter_word 1) [] (parameter_is (parameter_word 1) 1 (class_of_parameter 1 (omega arith) (omega arith))) in
        absurd (let z : ◌≡◌ {A = ℕ} 1 0 = ap length (sym one ∙ ap (those is_parameter) (sym alone) ∙ e) in omega arith)

module _ (rules : List Rule) (f : T (formed rules)) (body : List ℕ) (t : Tree (ranks_of rules) body) (l : T (all (is_legal (length rules - 1)) body))
    (c : those is_parameter body ≡ []) where
  start_rule_lem : (j : ℕ) → j < length rules → length rules ≤ suc j → RuleOf (with_start body rules) j
  start_rule_lem j h last =
      let e : j ≡ length rules - 1 = omega arith in
      let at : body_at (with_start body rules) j ≡ body =
      ap (body_at (with_start body rules)) (e ∙ ap (λ n. n - 1) (sym (with_start_length body rules))) ∙ sym (start_last (with_start body rules))
      ∙ with_start_start body rules (formed_parts rules f).some in
      let rank : get_or (ranks_of (with_start body rules)) j 0 ≡ 0 =
      ap (λ rs. get_or rs j 0) (with_start_ranks body rules) ∙ ap (λ n. get_or (ranks_of rules) n 0) e ∙ sym (start_rank_last rules (formed_parts rules f).some)
      ∙ (formed_parts rules f).start_rank_lem in
      record {
        rank_small = omega (arith, rank);
        legal = subst (λ b. T (all (is_legal j) b)) (sym at) (subst (λ n. T (all (is_legal n) body)) (sym e) l);
        tree = subst (Tree (ranks_of (with_start body rules))) (sym at) (subst (λ rs. Tree rs body) (sym (with_start_ranks body rules)) t);
        in_order = ap (those is_parameter) at ∙ c ∙ ap parameters (sym rank);
        not_alone = subst (λ b. T (not (same b (parameter_word 1 ∷ [])))) (sym at) (closed_not_alone body c);
      }

  lower_rule : (j : ℕ) → suc j < length rules → RuleOf (with_start body rules) j
  lower_rule j h =
      let r : RuleOf rules j = rule_of rules f j (omega arith) in
      let at : body_at (with_start body rules) j ≡ body_at rules j = with_start_below body rules j h in
      record {
        rank_small = omega (arith, r.rank_small, ap (λ rs. get_or rs j 0) (with_start_ranks body rules));
        legal = subst (λ b. T (all (is_legal j) b)) (sym at) r.legal;
        tree = subst (Tree (ranks_of (with_start body rules))) (sym at) (subst (λ rs. Tree rs (body_at rules j)) (sym (with_start_ranks body rules)) r.tree);
        in_order = ap (those is_parameter) at ∙ r.in_order ∙ ap (λ rs. parameters (get_or rs j 0)) (sym (with_start_ranks body rules));
        not_alone = subst (λ b. T (not (same b (parameter_word 1 ∷ [])))) (sym at) r.not_alone;
      }

  pub with_start_formed : T (formed (with_start body rules))
  with_start_formed =
      of_rules (with_start body rules) (omega (arith, with_start_length body rules, p.some)) (omega (arith, with_start_length body rules, p.not_many))
      (start_rank_last (with_start body rules) (omega (arith, with_start_length body rules, p.some))
      ∙ ap (λ n. get_or (ranks_of (with_start body rules)) (n - 1) 0) (with_start_length body rules)
      ∙ ap (λ rs. get_or rs (length rules - 1) 0) (with_start_ranks body rules) ∙ sym (start_rank_last rules p.some) ∙ p.start_rank_lem)
      (λ j h. go j (omega (arith, with_start_length body rules)) (ltb (suc j) (length rules)) refl)
    where
      p : FormedParts rules
      p = formed_parts rules f

      go : (j : ℕ) → j < length rules → (b : Bool) → ltb (suc j) (length rules) ≡ b → RuleOf (with_start body rules) j
      go j h true e = lower_rule j (ltb-true (suc j) (length rules) e)
      go j h false e = start_rule_lem j h (ltb-false (suc j) (length rules) e)

  same_below : (n : ℕ) → n < length rules → (j : ℕ) → j < n → get_or (expansions (with_start body rules)) j [] ≡ get_or (expansions rules) j []
  same_below zero h j k = absurd (omega arith)
  same_below (suc n) h j k =
      let r : RuleOf rules j = rule_of rules f j (omega arith) in
      (expansions_solve (with_start body rules) with_start_formed).1 j (omega (arith, with_start_length body rules))
      ∙ ap (expand (ranks_of (with_start body rules)) (expansions (with_start body rules))) (with_start_below body rules j (omega arith))
      ∙ expand_agree j (ranks_of (with_start body rules)) (ranks_of rules) (λ i m. ap (λ rs. get_or rs i 0) (with_start_ranks body rules))
      (expansions (with_start body rules)) (expansions rules) (λ i m. same_below n (omega arith) i (omega arith)) (body_at rules j) r.legal
      ∙ sym ((expansions_solve rules f).1 j (omega arith))

  pub with_start_tree : tree_of (with_start body rules) ≡ expand (ranks_of rules) (expansions rules) body
  with_start_tree =
      tree_of_start (with_start body rules) with_start_formed
      ∙ ap (expand (ranks_of (with_start body rules)) (expansions (with_start body rules))) (with_start_start body rules (formed_parts rules f).some)
      ∙ expand_agree (length rules - 1) (ranks_of (with_start body rules)) (ranks_of rules) (λ i m. ap (λ rs. get_or rs i 0) (with_start_ranks body rules))
      (expansions (with_start body rules)) (expansions rules) (same_below (length rules - 1) (omega (arith, (formed_parts rules f).some))) body l
