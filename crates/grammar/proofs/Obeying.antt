-- The three parts of a body's rule, one after the other.
use Prim.Native.Nat.{ℕ}
use mathlib.Core.Path.{◌≡◌, refl, ap, ◌∙◌}
use mathlib.Core.Bool.{Bool, true, false, not, ◌&&◌, and-true}
use mathlib.Core.List.{List, [], ◌∷◌}
use lib.Dec.{eqb}
use lib.ListN.{length}
use Rattle.model.specs.Words.{is_parameter}
use Rattle.model.specs.Trees.{same, those, parameters, is_tree, obeys}

-- a word alone is compared as a word
same_one : (w v : ℕ) → same (w ∷ []) (v ∷ []) ≡ eqb w v
same_one w v = and-true (eqb w v)

same_many : (ws : List ℕ) (v : ℕ) → (length ws ≡ 1 → ⊥) → same ws (v ∷ []) ≡ false
same_many [] v h = refl
same_many (w ∷ []) v h = absurd (h refl)
same_many (w ∷ x ∷ ws) v h = go (eqb w v)
  where
    go : (b : Bool) → (b && false) ≡ false
    go true = refl
    go false = refl

module _ (ranks : List ℕ) (k : ℕ) (ws : List ℕ) where
  last_part : Bool → Bool → Bool
  last_part t o = t && o && not (same ws (32769 ∷ []))

  pub not_a_tree : is_tree ranks ws ≡ false → obeys ranks k ws ≡ false
  unfolding last_part
  not_a_tree e = ap (λ (t : Bool). last_part t (same (those is_parameter ws) (parameters k))) e

  module _ (e : is_tree ranks ws ≡ true) where
    pub not_in_order : same (those is_parameter ws) (parameters k) ≡ false → obeys ranks k ws ≡ false
    unfolding last_part
    not_in_order f = ap (λ (t : Bool). last_part t (same (those is_parameter ws) (parameters k))) e ∙ ap (last_part true) f

    module _ (f : same (those is_parameter ws) (parameters k) ≡ true) where
      both : obeys ranks k ws ≡ not (same ws (32769 ∷ []))
      unfolding last_part
      both = ap (λ (t : Bool). last_part t (same (those is_parameter ws) (parameters k))) e ∙ ap (last_part true) f

      pub several_words : (length ws ≡ 1 → ⊥) → obeys ranks k ws ≡ true
      several_words h = both ∙ ap not (same_many ws 32769 h)

      pub one_word : (w : ℕ) → ws ≡ w ∷ [] → obeys ranks k ws ≡ not (eqb w 32769)
      one_word w q = both ∙ ap (λ (l : List ℕ). not (same l (32769 ∷ []))) q ∙ ap not (same_one w 32769)
