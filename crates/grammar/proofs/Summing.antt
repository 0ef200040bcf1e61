-- Gaps added up by the library's sum, and none of them over 2^40.
use Prim.Native.Nat.{ℕ, zero, suc, ◌+◌, ◌*◌, ◌≤◌, ◌^◌}
use mathlib.Core.Path.{◌≡◌, refl, ap, ◌∙◌}
use mathlib.Core.List.{List, [], ◌∷◌}
use native.Mathlib.Omega.{arith}
use lib.ListN.{take, drop}
use lib.Seq.{get_or-drop}
use Rattle.std.specs.Prelude.{sum}
use Rattle.std.proofs.lemmas.List.Sums.{sum_by-cons}
use Rattle.laws.specs.Sums as laws
use Rattle.grammar.specs.Measures.{SizesSmall}

pub sum_same : (gs : List ℕ) → sum gs ≡ laws.sum gs
sum_same [] = refl
sum_same (g ∷ gs) = sum_by-cons (λ n. n) g gs ∙ ap (λ (n : ℕ). g + n) (sum_same gs)

pub sum_small : (k : ℕ) (gs : List ℕ) → SizesSmall gs → sum (take k gs) ≤ k * 2 ^ 40
sum_small zero gs h = omega arith
sum_small (suc k) [] h = omega arith
sum_small (suc k) (g ∷ gs) h = omega (arith, h 0, sum_by-cons (λ n. n) g (take k gs), sum_small k gs (λ i. h (suc i)))

pub small_past : (n : ℕ) (gs : List ℕ) → SizesSmall gs → SizesSmall (drop n gs)
small_past n gs h i = omega (arith, get_or-drop n gs i 0, h (n + i))
