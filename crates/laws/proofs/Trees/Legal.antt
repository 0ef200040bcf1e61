-- A body that calls only rules below n means the same wherever the ranks and expansions below n are the same.
use Prim.Native.Nat.{ℕ, ◌≤◌, ◌<◌}
use mathlib.Core.Path.{◌≡◌, refl, sym, ap, ◌∙◌}
use mathlib.Core.List.{List, [], ◌∷◌}
use native.Mathlib.Omega.{arith}
use lib.Dec.{T, ltb→lt, lt→ltb}
use lib.ListN.{take, drop, get_or}
use Rattle.model.specs.Words.{Class, empty, label, parameter, call, illegal, class_of, by_class, rank_of, rank_as}
use Rattle.model.specs.Trees.{join, all, is_legal, grow, fill, push, expand, is_legal_as}
use Rattle.laws.specs.Formed.{height, Fits, Tree, stack_of}
use Rattle.laws.proofs.Words.Lists.{all_cons}

pub legal_call : (n w j : ℕ) → class_of w ≡ call j → T (is_legal n w) → j < n
legal_call n w j e t = ltb→lt j n (rw e at t)

-- what is legal in a lower rule is legal in a higher one
pub legal_higher : (m n : ℕ) → m ≤ n → (w : ℕ) → T (is_legal m w) → T (is_legal n w)
legal_higher m n h w t = go (class_of w) t
  where
    go : (c : Class) → T (is_legal_as m c) → T (is_legal_as n c)
    go empty t = tt
    go label t = tt
    go (parameter i) t = tt
    go (call j) t = let k = ltb→lt j m t in lt→ltb j n (omega arith)
    go illegal t = absurd t

module _ (n : ℕ) (ranks ranks' : List ℕ) (same_ranks : (j : ℕ) → j < n → get_or ranks j 0 ≡ get_or ranks' j 0) where
  pub rank_agree : (w : ℕ) → T (is_legal n w) → rank_of ranks w ≡ rank_of ranks' w
  rank_agree w t = go (class_of w) t
    where
      go : (c : Class) → T (is_legal_as n c)
          → ◌≡◌ {A = ℕ} (rank_as ranks c) (rank_as ranks' c)
      go empty t = refl
      go label t = refl
      go (parameter i) t = refl
      go (call j) t = same_ranks j (ltb→lt j n t)
      go illegal t = absurd t

  pub height_agree : (h : ℕ) (ws : List ℕ) → T (all (is_legal n) ws) → height (rank_of ranks) h ws ≡ height (rank_of ranks') h ws
  height_agree h [] t = refl
  height_agree h (w ∷ ws) t =
      let s = all_cons (is_legal n) w ws t in
      cc (height_agree h ws s.1, rank_agree w s.0)

  pub fits_agree : (h : ℕ) (ws : List ℕ) → T (all (is_legal n) ws) → Fits (rank_of ranks) h ws → Fits (rank_of ranks') h ws
  fits_agree h [] t f = tt
  fits_agree h (w ∷ ws) t f =
      let s = all_cons (is_legal n) w ws t in
      (omega (arith, f.0, height_agree h ws s.1, rank_agree w s.0), fits_agree h ws s.1 f.1)

  pub tree_agree : (ws : List ℕ) → T (all (is_legal n) ws) → Tree ranks ws → Tree ranks' ws
  tree_agree ws t f = (fits_agree 0 ws t f.0, sym (height_agree 0 ws t) ∙ f.1)

  module _ (lower lower' : List (List ℕ)) (same_lower : (j : ℕ) → j < n → get_or lower j [] ≡ get_or lower' j []) where
    pub grow_agree : (w : ℕ) → T (is_legal n w) → (children : List (List ℕ)) → grow (λ v. v) lower w children ≡ grow (λ v. v) lower' w children
    grow_agree w t children = go (class_of w) t
      where
        go : (c : Class) → T (is_legal_as n c)
            → by_class (record { empty = w ∷ join children; label = w ∷ join children; parameter = λ i. w ∷ join children; call = λ j. fill (λ v. v) children (get_or lower j []); illegal = w ∷ join children }) c
            ≡ by_class (record { empty = w ∷ join children; label = w ∷ join children; parameter = λ i. w ∷ join children; call = λ j. fill (λ v. v) children (get_or lower' j []); illegal = w ∷ join children }) c
        go empty t = refl
        go label t = refl
        go (parameter i) t = refl
        go (call j) t = ap (fill (λ v. v) children) (same_lower j (ltb→lt j n t))
        go illegal t = absurd t

    push_agree : (w : ℕ) → T (is_legal n w) → (stack : List (List ℕ)) → push (rank_of ranks) (grow (λ v. v) lower) w stack ≡ push (rank_of ranks') (grow (λ v. v) lower') w stack
    push_agree w t stack =
        ap (λ (k : ℕ). grow (λ v. v) lower w (take k stack) ∷ drop k stack) (rank_agree w t)
        ∙ ap (λ (l : List ℕ). l ∷ drop (rank_of ranks' w) stack) (grow_agree w t (take (rank_of ranks' w) stack))

    pub stack_agree : (ws : List ℕ) (stack : List (List ℕ)) → T (all (is_legal n) ws) → stack_of ranks lower ws stack ≡ stack_of ranks' lower' ws stack
    stack_agree [] stack t = refl
    stack_agree (w ∷ ws) stack t =
        let s = all_cons (is_legal n) w ws t in
        ap (push (rank_of ranks) (grow (λ v. v) lower) w) (stack_agree ws stack s.1) ∙ push_agree w s.0 (stack_of ranks' lower' ws stack)

    pub expand_agree : (ws : List ℕ) → T (all (is_legal n) ws) → expand ranks lower ws ≡ expand ranks' lower' ws
    expand_agree ws t = ap join (stack_agree ws [] t)
