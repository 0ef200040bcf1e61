-- Tests put together, and over a list one word further.
use Prim.Native.Nat.{ℕ}
use mathlib.Core.Path.{◌≡◌, refl, ap, ◌∙◌}
use mathlib.Core.Bool.{Bool, true, false, ◌&&◌}
use mathlib.Core.List.{List, ◌∷◌}
use native.Mathlib.Omega.{arith}
use Rattle.model.specs.Trees.{all}

pub both_true : (a b : Bool) → (a && b) ≡ true → (a ≡ true) × (b ≡ true)
both_true true b e = (refl, e)
both_true false b e = absurd (let z : ◌≡◌ {A = ℕ} 0 1 = cc in omega arith)

module _ (test : ℕ → Bool) {l rest : List ℕ} {w : ℕ} (e : l ≡ w ∷ rest) where
  pub all_fails : test w ≡ false → all test l ≡ false
  all_fails f = ap (all test) e ∙ ap (λ (b : Bool). b && all test rest) f

  pub all_goes_on : test w ≡ true → all test l ≡ all test rest
  all_goes_on f = ap (all test) e ∙ ap (λ (b : Bool). b && all test rest) f
