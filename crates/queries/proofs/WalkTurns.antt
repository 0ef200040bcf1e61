-- The walk over pieces, turn by turn, for every reading of the pieces.
use Prim.Native.Nat.{ℕ, suc, ◌+◌, ◌*◌, ◌-◌, ◌≤◌, ◌<◌}
use native.Mathlib.Omega.{arith}
use native.Mathlib.Numerals.{add-one}
use mathlib.Core.Path.{◌≡◌, sym, ap, ap₂, subst, ◌∙◌}
use mathlib.Core.List.{List, [], ◌∷◌, ◌++◌}
use lib.ListN.{length, take, drop, get_or, set, length-drop}
use lib.Seq.{get_or-append_seam, take-suc, take-suc-set, get_or-drop, take-length}
use Rattle.queries.specs.Pieces.{stop, Spelled, Walkable, Walked}
use Rattle.queries.proofs.Spelling.{Agree, append_agree, length_put}
use Rattle.queries.proofs.Walking.{Walking, View, ended, on, view, place_below, walking_start, walk_pop, walk_word, walk_past, walk_over, walk_into, walking_agree, walk_cost, pile_cost_agree, cost_pop, cost_on, cost_into}

-- at the word o of `many`; what follows at the place i is the rest, whatever words the pieces are read as
pub record Walk (P S sizes : List ℕ) (n p : ℕ) (Fr : List ℕ) (i skip o : ℕ) : Type 0 where
  pub deep : length Fr < n
  pub shows : (G : ℕ → List ℕ) (top : ℕ) → Spelled G n top P S sizes → top ≤ length P → Walking G P n top Fr (G (5 * (n - 1))) i (length Fr) skip (p + o)

-- the first o words of `out` are given
abbrev pub Given : List ℕ → List ℕ → List ℕ → ℕ → ℕ → ℕ → List ℕ → Type 0
Given P S sizes n p o out = (G : ℕ → List ℕ) (top : ℕ) → Spelled G n top P S sizes → top ≤ length P → take o out ≡ take o (drop p (G (5 * (n - 1))))

module _ {P S sizes : List ℕ} {n p many : ℕ} (W : Walkable P S sizes n p many) where
  pub walk_start : (Fr : List ℕ) → Fr ≡ [] → Walk P S sizes n p Fr (get_or S (5 * (n - 1)) 0) p 0
  walk_start Fr f = subst (λ (fs : List ℕ). Walk P S sizes n p fs (get_or S (5 * (n - 1)) 0) p 0) (sym f)
      (record {
        deep = W.some_rules;
        shows = λ G top s t.
            let e : p + 0 ≡ p = omega arith in
            let l : 1 ≤ length (G (5 * (n - 1))) = omega (arith, W.some_words, s.measured (5 * (n - 1)) (omega (arith, W.some_rules))) in
            subst (λ (k : ℕ). Walking G P n top [] (G (5 * (n - 1))) (get_or S (5 * (n - 1)) 0) 0 p k) (sym e)
            (walking_start G P S sizes n top [] p W.some_rules l s);
      })

  module _ {Fr : List ℕ} {i skip o : ℕ} (x : Walk P S sizes n p Fr i skip o) (h : o < many) where
    here : Walking W.G P n W.top Fr (W.G (5 * (n - 1))) i (length Fr) skip (p + o)
    here = x.shows W.G W.top W.spells W.within

    in_tree : (G : ℕ → List ℕ) (top : ℕ) → Spelled G n top P S sizes → p + o < length (G (5 * (n - 1)))
    in_tree G top s = omega (arith, W.fits, s.measured (5 * (n - 1)) (omega (arith, W.some_rules)))

    pub turn_place : i < length P
    turn_place = omega (arith, place_below here.slice, W.within)

    -- the next word
    module _ (l : get_or P i 0 < 32768) (z : skip ≡ 0) where
      pub turn_word : Walk P S sizes n p Fr (i + 1) skip (o + 1)
      turn_word =
          record {
            deep = x.deep;
            shows = λ G top s t.
                let tree = G (5 * (n - 1)) in
                let e : suc (p + o) ≡ p + (o + 1) = omega arith in
                subst (λ (k : ℕ). Walking G P n top Fr tree k (length Fr) skip (p + (o + 1))) (sym (add-one i))
                (subst (λ (k : ℕ). Walking G P n top Fr tree (suc i) (length Fr) k (p + (o + 1))) (sym z)
                (subst (Walking G P n top Fr tree (suc i) (length Fr) 0) e (walk_word W.few_rules (x.shows G top s t) l z (in_tree G top s)).1));
          }

      pub given_word : (out : List ℕ) → length out ≡ many → (w : ℕ) → w ≡ get_or P i 0 → Given P S sizes n p o out → Given P S sizes n p (o + 1) (set out o w)
      given_word out m w we g G top s t =
          let tree = G (5 * (n - 1)) in
          let in-t = in_tree G top s in
          let v : get_or tree (p + o) 0 ≡ w = (walk_word W.few_rules (x.shows G top s t) l z in-t).0 ∙ sym we in
          ap (λ (k : ℕ). take k (set out o w)) (add-one o)
          ∙ take-suc-set out o w (omega arith)
          ∙ ap₂ (λ (l : List ℕ) (v : ℕ). l ++ v ∷ []) (g G top s t) (sym v ∙ sym (get_or-drop p tree o 0))
          ∙ sym (take-suc (drop p tree) o 0 (omega (arith, length-drop p tree)))
          ∙ ap (λ (k : ℕ). take k (drop p tree)) (sym (add-one o))

    -- a piece that is passed: only the words to skip change
    passed : (skip' : ℕ)
        → ((G : ℕ → List ℕ) (top : ℕ) → Spelled G n top P S sizes → Walking G P n top Fr (G (5 * (n - 1))) i (length Fr) skip (p + o)
        → Walking G P n top Fr (G (5 * (n - 1))) (suc i) (length Fr) skip' (p + o))
        → Walk P S sizes n p Fr (i + 1) skip' o
    passed skip' f =
        record {
          deep = x.deep;
          shows = λ G top s t. subst (λ (k : ℕ). Walking G P n top Fr (G (5 * (n - 1))) k (length Fr) skip' (p + o)) (sym (add-one i)) (f G top s (x.shows G top s t));
        }

    pub turn_past : get_or P i 0 < 32768 → (skip ≡ 0 → ⊥) → Walk P S sizes n p Fr (i + 1) (skip - 1) o
    turn_past l z = passed (skip - 1) (λ G top s w. walk_past W.few_rules w l (omega arith))

    pub turn_deep : get_or P i 0 ≡ stop → 0 < length Fr
    turn_deep e = (walk_pop W.few_rules here e (in_tree W.G W.top W.spells)).0

    pub turn_gap : 32768 ≤ get_or P i 0 → (get_or P i 0 ≡ stop → ⊥) → (get_or P i 0 - 32768 < 5 * n) × (suc (length Fr) < n)
    turn_gap l u = go (view here.slice)
      where
        go : View W.G P (n - 1 - length Fr) i W.top here.us → (get_or P i 0 - 32768 < 5 * n) × (suc (length Fr) < n)
        go (ended e f) = absurd (u e)
        go (on ws k f s) = (omega arith, omega arith)

    -- the piece names the gap g
    module _ (l : 32768 ≤ get_or P i 0) (u : get_or P i 0 ≡ stop → ⊥) (g : ℕ) (ge : g ≡ get_or P i 0 - 32768) where
      pub gap_low : g < 5 * n
      gap_low = omega (arith, (turn_gap l u).0)

      pub turn_over : get_or sizes g 0 ≤ skip → Walk P S sizes n p Fr (i + 1) (skip - get_or sizes g 0) o
      turn_over k =
          passed (skip - get_or sizes g 0) (λ G top s w.
          let z : get_or sizes g 0 ≡ get_or sizes (get_or P i 0 - 32768) 0 = ap (λ (j : ℕ). get_or sizes j 0) ge in
          let m = z ∙ s.measured (get_or P i 0 - 32768) (turn_gap l u).0 in
          subst (λ (v : ℕ). Walking G P n top Fr (G (5 * (n - 1))) (suc i) (length Fr) (skip - v) (p + o)) (sym m) (walk_over W.few_rules w l u (omega arith)))

      module _ (v : ℕ) (ve : v ≡ i + 1) (Fr' : List ℕ) (more : Fr' ≡ Fr ++ v ∷ []) where
        length_more : length Fr' ≡ suc (length Fr)
        length_more = ap length more ∙ length_put Fr v

        frames_agree : Agree (length Fr) Fr' Fr
        frames_agree = subst (λ (fs : List ℕ). Agree (length Fr) fs Fr) (sym more) (append_agree Fr (v ∷ []))

        frame_there : get_or Fr' (length Fr) 0 ≡ suc i
        frame_there = ap (λ (fs : List ℕ). get_or fs (length Fr) 0) more ∙ get_or-append_seam Fr v [] 0 ∙ ve ∙ add-one i

        pub turn_into : skip < get_or sizes g 0 → Walk P S sizes n p Fr' (get_or S g 0) skip o
        turn_into k =
            let few = W.few_rules in
            let q = turn_gap l u in
            record {
              deep = omega (arith, length_more);
              shows = λ G top s t.
                  let z : get_or sizes g 0 ≡ get_or sizes (get_or P i 0 - 32768) 0 = ap (λ (j : ℕ). get_or sizes j 0) ge in
                  let m = s.measured (get_or P i 0 - 32768) q.0 in
                  subst (λ (j : ℕ). Walking G P n top Fr' (G (5 * (n - 1))) (get_or S j 0) (length Fr') skip (p + o)) (sym ge)
                  (subst (λ (k : ℕ). Walking G P n top Fr' (G (5 * (n - 1))) (get_or S (get_or P i 0 - 32768) 0) k skip (p + o)) (sym length_more)
                  (walk_into few (x.shows G top s t) s Fr' frames_agree frame_there l u (omega arith)).2);
            }

        pub less_into : walk_cost P S n Fr' (get_or S g 0) (length Fr') < walk_cost P S n Fr i (length Fr)
        less_into =
            subst (λ (j : ℕ). walk_cost P S n Fr' (get_or S j 0) (length Fr') < walk_cost P S n Fr i (length Fr)) (sym ge)
            (subst (λ (k : ℕ). walk_cost P S n Fr' (get_or S (get_or P i 0 - 32768) 0) k < walk_cost P S n Fr i (length Fr)) (sym length_more)
            (cost_into P S n Fr Fr' i (length Fr) turn_place u l (turn_gap l u).1 frames_agree frame_there))

    pub less_on : (get_or P i 0 ≡ stop → ⊥) → walk_cost P S n Fr (i + 1) (length Fr) < walk_cost P S n Fr i (length Fr)
    less_on u = subst (λ (k : ℕ). walk_cost P S n Fr k (length Fr) < walk_cost P S n Fr i (length Fr)) (sym (add-one i)) (cost_on P S n Fr i (length Fr) turn_place u)

    -- the piece is a stop: the walk goes on at the last of the places to come back to
    module _ (e : get_or P i 0 ≡ stop) (v : ℕ) (Fr' : List ℕ) (was : Fr ≡ Fr' ++ v ∷ []) where
      one_less : length Fr - 1 ≡ length Fr'
      one_less = omega (arith, ap length was, length_put Fr' v)

      there : get_or Fr (length Fr - 1) 0 ≡ v
      there = ap₂ (λ (fs : List ℕ) (k : ℕ). get_or fs k 0) was one_less ∙ get_or-append_seam Fr' v [] 0

      agree : Agree (length Fr') Fr' Fr
      agree j k = sym (append_agree Fr' (v ∷ []) j k) ∙ ap (λ (fs : List ℕ). get_or fs j 0) (sym was)

      pub turn_pop : Walk P S sizes n p Fr' v skip o
      turn_pop =
          record {
            deep = omega (arith, x.deep, one_less);
            shows = λ G top s t.
                walking_agree Fr' agree
                (subst (λ (k : ℕ). Walking G P n top Fr (G (5 * (n - 1))) v k skip (p + o)) one_less
                (subst (λ (j : ℕ). Walking G P n top Fr (G (5 * (n - 1))) j (length Fr - 1) skip (p + o)) there
                (walk_pop W.few_rules (x.shows G top s t) e (in_tree G top s)).1));
          }

      pub less_pop : walk_cost P S n Fr' v (length Fr') < walk_cost P S n Fr i (length Fr)
      less_pop =
          let c : walk_cost P S n Fr v (length Fr') < walk_cost P S n Fr i (length Fr) =
          subst (λ (k : ℕ). walk_cost P S n Fr v k < walk_cost P S n Fr i (length Fr)) one_less
          (subst (λ (j : ℕ). walk_cost P S n Fr j (length Fr - 1) < walk_cost P S n Fr i (length Fr)) there (cost_pop P S n Fr i (length Fr) turn_place e (turn_deep e))) in
          omega (arith, pile_cost_agree P S n Fr Fr' (length Fr') agree)

  -- all of `out` is given
  pub walk_end : (o : ℕ) (out : List ℕ) → length out ≤ o → o ≤ length out → Given P S sizes n p o out → Walked P S sizes n p out
  walk_end o out l m g G top s t =
      let e : o ≡ length out = omega arith in
      sym (take-length out) ∙ ap (λ (k : ℕ). take k out) (sym e) ∙ g G top s t ∙ ap (λ (k : ℕ). take k (drop p (G (5 * (n - 1))))) e
