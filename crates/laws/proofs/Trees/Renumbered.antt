-- Words whose calls are given new numbers: what stays, where each call's new number goes with it.
use Prim.Native.Nat.{ℕ, suc, ◌<◌}
use mathlib.Core.Path.{◌≡◌, refl, sym, ap, ◌∙◌, ap₂}
use mathlib.Core.Bool.{true, false, not}
use mathlib.Core.List.{List, [], ◌∷◌, map}
use native.Mathlib.Omega.{arith}
use lib.Dec.{T, eqb, lt→ltb, not_T, T_not, eqb→eq}
use lib.ListN.{length, get_or, take, drop}
use mir.Facts.{and_yes, yes_and}
use Rattle.model.specs.Words.{Class, empty, label, parameter, call, illegal, class_of, rank_of, is_parameter, renumbered, call_word, parameter_word, is_parameter_as, rank_as}
use Rattle.model.specs.Trees.{all, those, same, is_legal, grow, fill, push, is_legal_as}
use Rattle.laws.specs.Formed.{height, Fits, Tree, stack_of}
use Rattle.laws.proofs.Words.Classes.{class_of_call}
use Rattle.laws.proofs.Trees.Fills.{by_call, when_call_call, when_call_other, rank_call, those_out, grow_call, grow_other}
use Rattle.laws.proofs.Words.Lists.{all_cons}

-- P holds of the rule that each call among the words calls
abbrev pub Calls : (ℕ → Type 0) → List ℕ → Type 0
Calls P ws = (i j : ℕ) → i < length ws → class_of (get_or ws i 0) ≡ call j → P j

pub calls_head : (P : ℕ → Type 0) (w : ℕ) (ws : List ℕ) → Calls P (w ∷ ws) → (j : ℕ) → class_of w ≡ call j → P j
calls_head P w ws c j e = c 0 j (omega arith) e

pub calls_tail : (P : ℕ → Type 0) (w : ℕ) (ws : List ℕ) → Calls P (w ∷ ws) → Calls P ws
calls_tail P w ws c = λ i j h e. c (suc i) j (omega arith) e

those_cons : (v w : ℕ) → v ≡ w → (vs ws : List ℕ) → those is_parameter vs ≡ those is_parameter ws → those is_parameter (v ∷ vs) ≡ those is_parameter (w ∷ ws)
those_cons v w e vs ws f =
    ap (λ (x : ℕ). those is_parameter (x ∷ vs)) e
    ∙ ap {B = List ℕ} (λ (l : List ℕ). elim (is_parameter w) [ true ↦ w ∷ l | false ↦ l ]) f

-- a word that is no call is legal in one rule as in another
pub legal_no_call : (m n w : ℕ) → ((j : ℕ) → class_of w ≡ call j → ⊥) → T (is_legal m w) → T (is_legal n w)
legal_no_call m n w other t = go (class_of w) other t
  where
    go : (c : Class) → ((j : ℕ) → c ≡ call j → ⊥) → T (is_legal_as m c) → T (is_legal_as n c)
    go empty other t = tt
    go label other t = tt
    go (parameter i) other t = tt
    go (call j) other t = absurd (other j refl)
    go illegal other t = absurd t

pub call_legal : (n w j : ℕ) → class_of w ≡ call j → j < n → T (is_legal n w)
call_legal n w j e h = rw e (lt→ltb j n h)

module _ (number : ℕ → ℕ) where
  pub renumbered_call : (w j : ℕ) → class_of w ≡ call j → number j < 256 → class_of (renumbered number w) ≡ call (number j)
  renumbered_call w j e h = ap class_of (when_call_call w (λ j. call_word (number j)) w j e) ∙ class_of_call (number j) h

  pub renumbered_other : (w : ℕ) → ((j : ℕ) → class_of w ≡ call j → ⊥) → renumbered number w ≡ w
  renumbered_other w other = when_call_other w (λ j. call_word (number j)) w other

  pub renumbered_parameter : (w : ℕ) → ((j : ℕ) → class_of w ≡ call j → number j < 256) → is_parameter (renumbered number w) ≡ is_parameter w
  renumbered_parameter w c =
      by_call _ w
      (λ j e. ap is_parameter_as (renumbered_call w j e (c j e)) ∙ ap is_parameter_as (sym e))
      (λ other. ap is_parameter (renumbered_other w other))

  pub those_renumbered : (ws : List ℕ) → Calls (λ j. number j < 256) ws → those is_parameter (map (renumbered number) ws) ≡ those is_parameter ws
  those_renumbered [] c = refl
  those_renumbered (w ∷ ws) c =
      let ih = those_renumbered ws (calls_tail (λ j. number j < 256) w ws c) in
      let p : is_parameter (renumbered number w) ≡ is_parameter w = renumbered_parameter w (calls_head (λ j. number j < 256) w ws c) in
      by_call _ w
      (λ j e.
      let n : is_parameter w ≡ false = ap is_parameter_as e in
      those_out is_parameter (renumbered number w) (map (renumbered number) ws) (p ∙ n) ∙ ih ∙ sym (those_out is_parameter w ws n))
      (λ other. those_cons (renumbered number w) w (renumbered_other w other) (map (renumbered number) ws) ws ih)

  module _ (ranks ranks' : List ℕ) where
    rank_other : (w : ℕ) → ((j : ℕ) → class_of w ≡ call j → ⊥) → rank_of ranks' w ≡ rank_of ranks w
    rank_other w other = go (class_of w) other
      where
        go : (c : Class) → ((j : ℕ) → c ≡ call j → ⊥) → ◌≡◌ {A = ℕ} (rank_as ranks' c) (rank_as ranks c)
        go empty other = refl
        go label other = refl
        go (parameter n) other = refl
        go (call j) other = absurd (other j refl)
        go illegal other = refl

    abbrev Moved : ℕ → Type 0
    Moved j = (number j < 256) × (get_or ranks' (number j) 0 ≡ get_or ranks j 0)

    pub rank_renumbered : (w : ℕ) → ((j : ℕ) → class_of w ≡ call j → (number j < 256) × (get_or ranks' (number j) 0 ≡ get_or ranks j 0)) → rank_of ranks' (renumbered number w) ≡ rank_of ranks w
    rank_renumbered w c =
        by_call _ w
        (λ j e. rank_call ranks' (renumbered number w) (number j) (renumbered_call w j e (c j e).0) ∙ (c j e).1 ∙ sym (rank_call ranks w j e))
        (λ other. ap (rank_of ranks') (renumbered_other w other) ∙ rank_other w other)

    pub height_renumbered : (h : ℕ) (ws : List ℕ) → Calls (λ j. (number j < 256) × (get_or ranks' (number j) 0 ≡ get_or ranks j 0)) ws
        → height (rank_of ranks') h (map (renumbered number) ws) ≡ height (rank_of ranks) h ws
    height_renumbered h [] c = refl
    height_renumbered h (w ∷ ws) c =
        cc (height_renumbered h ws (calls_tail Moved w ws c), rank_renumbered w (calls_head Moved w ws c))

    pub fits_renumbered : (h : ℕ) (ws : List ℕ) → Calls (λ j. (number j < 256) × (get_or ranks' (number j) 0 ≡ get_or ranks j 0)) ws
        → Fits (rank_of ranks) h ws → Fits (rank_of ranks') h (map (renumbered number) ws)
    fits_renumbered h [] c f = tt
    fits_renumbered h (w ∷ ws) c f = (
      omega (arith, height_renumbered h ws (calls_tail Moved w ws c), rank_renumbered w (calls_head Moved w ws c), f.0),
      fits_renumbered h ws (calls_tail Moved w ws c) f.1,
    )

    pub tree_renumbered : (ws : List ℕ) → Calls (λ j. (number j < 256) × (get_or ranks' (number j) 0 ≡ get_or ranks j 0)) ws → Tree ranks ws → Tree ranks' (map (renumbered number) ws)
    tree_renumbered ws c t = (fits_renumbered 0 ws c t.0, height_renumbered 0 ws c ∙ t.1)

  -- what a word makes of its children, with the expansions that go with the new numbers
  pub grow_renumbered : (lower lower' : List (List ℕ)) (w : ℕ) → ((j : ℕ) → class_of w ≡ call j → (number j < 256) × (get_or lower' (number j) [] ≡ get_or lower j []))
      → (ts : List (List ℕ)) → grow (λ v. v) lower' (renumbered number w) ts ≡ grow (λ v. v) lower w ts
  grow_renumbered lower lower' w c ts =
      by_call _ w
      (λ j e.
      grow_call (λ v. v) lower' ts (renumbered number w) (number j) (renumbered_call w j e (c j e).0) ∙ ap (fill (λ v. v) ts) (c j e).1
      ∙ sym (grow_call (λ v. v) lower ts w j e))
      (λ other. ap (λ v. grow (λ v. v) lower' v ts) (renumbered_other w other) ∙ grow_other (λ v. v) lower' ts w other ∙ sym (grow_other (λ v. v) lower ts w other))

  -- Numbers given to calls anew, with ranks and expansions that go with them, leave the stack as it is.
  pub stack_renumbered : (ranks ranks' : List ℕ) (lower lower' : List (List ℕ)) (ws : List ℕ) (stack : List (List ℕ))
      → Calls (λ j. (number j < 256) × (get_or ranks' (number j) 0 ≡ get_or ranks j 0) × (get_or lower' (number j) [] ≡ get_or lower j [])) ws
      → stack_of ranks' lower' (map (renumbered number) ws) stack ≡ stack_of ranks lower ws stack
  stack_renumbered ranks ranks' lower lower' [] stack c = refl
  stack_renumbered ranks ranks' lower lower' (w ∷ ws) stack c =
      let P : ℕ → Type 0 = λ j. (number j < 256) × (get_or ranks' (number j) 0 ≡ get_or ranks j 0) × (get_or lower' (number j) [] ≡ get_or lower j []) in
      let below : List (List ℕ) = stack_of ranks lower ws stack in
      let here = calls_head P w ws c in
      let rank = rank_renumbered ranks ranks' w (λ j e. ((here j e).0, (here j e).1)) in
      ap (push (rank_of ranks') (grow (λ v. v) lower') (renumbered number w)) (stack_renumbered ranks ranks' lower lower' ws stack (calls_tail P w ws c))
      ∙ ap₂ ◌∷◌
      (grow_renumbered lower lower' w (λ j e. ((here j e).0, (here j e).2)) (take (rank_of ranks' (renumbered number w)) below)
      ∙ ap (λ (r : ℕ). grow (λ v. v) lower w (take r below)) rank)
      (ap (λ (r : ℕ). drop r below) rank)

  pub legal_renumbered : (m n : ℕ) (ws : List ℕ) → Calls (λ j. (number j < 256) × (number j < n)) ws → T (all (is_legal m) ws) → T (all (is_legal n) (map (renumbered number) ws))
  legal_renumbered m n [] c t = tt
  legal_renumbered m n (w ∷ ws) c t =
      let s = all_cons (is_legal m) w ws t in
      let P : ℕ → Type 0 = λ j. (number j < 256) × (number j < n) in
      yes_and (is_legal n (renumbered number w)) (all (is_legal n) (map (renumbered number) ws))
      (by_call _ w
      (λ j e. let p = calls_head P w ws c j e in call_legal n (renumbered number w) (number j) (renumbered_call w j e p.0) p.1)
      (λ other. rw (renumbered_other w other) (legal_no_call m n w other s.0)))
      (legal_renumbered m n ws (calls_tail P w ws c) s.1)

  -- a call stays a call, so what was no parameter alone is none
  pub alone_renumbered : (ws : List ℕ) → Calls (λ j. number j < 256) ws → T (not (same ws (parameter_word 1 ∷ []))) → T (not (same (map (renumbered number) ws) (parameter_word 1 ∷ [])))
  alone_renumbered [] c t = tt
  alone_renumbered (w ∷ v ∷ ws) c t = not_T (same (map (renumbered number) (w ∷ v ∷ ws)) (parameter_word 1 ∷ [])) (λ s. (and_yes (eqb (renumbered number w) (parameter_word 1)) false s).1)
  alone_renumbered (w ∷ []) c t =
      not_T (same (renumbered number w ∷ []) (parameter_word 1 ∷ []))
      (λ s.
      let e = eqb→eq (renumbered number w) (parameter_word 1) (and_yes (eqb (renumbered number w) (parameter_word 1)) true s).0 in
      by_call _ w
      (λ j x. let y = when_call_call w (λ j. call_word (number j)) w j x in omega arith)
      (λ other. T_not (same (w ∷ []) (parameter_word 1 ∷ [])) t (rw (renumbered_other w other) at s)))
