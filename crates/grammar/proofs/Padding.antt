-- Tables of one filler, and with entries put over their front.
use Prim.Native.Nat.{ℕ, zero, suc, ◌+◌, ◌-◌, ◌≤◌}
use mathlib.Core.Path.{◌≡◌, refl, ap, ◌∙◌}
use mathlib.Core.List.{List, ◌++◌}
use native.Mathlib.Omega.{arith}
use lib.ListN.{length, drop, get_or, replicate, length-append, length-replicate}
use lib.Seq.{sets, sets-eq}
use Rattle.grammar.specs.Meaning.{padded}

pub zero_at : (n i : ℕ) → get_or (replicate {A = ℕ} n 0) i 0 ≡ 0
zero_at zero i = refl
zero_at (suc n) zero = refl
zero_at (suc n) (suc i) = zero_at n i

pub length_padded : {A : Type 0} (filler : A) (len : ℕ) (xs : List A) → length xs ≤ len → length (padded filler len xs) ≡ len
length_padded filler len xs h = omega (arith, length-append xs (replicate (len - length xs) filler), length-replicate (len - length xs) filler)

drop_filler : {A : Type 0} (filler : A) (k n : ℕ) → drop k (replicate n filler) ≡ replicate (n - k) filler
drop_filler filler zero n = let e : n ≡ n - 0 = omega arith in ap (λ (m : ℕ). replicate m filler) e
drop_filler filler (suc k) zero = let e : 0 ≡ 0 - suc k = omega arith in ap (λ (m : ℕ). replicate m filler) e
drop_filler filler (suc k) (suc n) = let e : n - k ≡ suc n - suc k = omega arith in drop_filler filler k n ∙ ap (λ (m : ℕ). replicate m filler) e

-- entries over the filler
pub over_filler : {A : Type 0} (filler : A) (table xs : List A) → table ≡ replicate (length table) filler → length xs ≤ length table
    → sets table 0 xs ≡ padded filler (length table) xs
over_filler {A} filler table xs e h =
    let k : 0 + length xs ≡ length xs = omega arith in
    sets-eq xs table 0 (omega arith)
    ∙ ap (λ (n : ℕ). xs ++ drop n table) k
    ∙ ap (λ (l : List A). xs ++ drop (length xs) l) e
    ∙ ap (λ (l : List A). xs ++ l) (drop_filler filler (length xs) (length table))
