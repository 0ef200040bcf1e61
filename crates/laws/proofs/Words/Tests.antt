-- Tests put together and taken apart.
use Prim.Native.Nat.{ℕ}
use mathlib.Core.Path.{◌≡◌, refl}
use mathlib.Core.Bool.{Bool, true, false, not, ◌||◌}
use native.Mathlib.Omega.{arith}
use lib.Dec.{T}

pub T_true : (b : Bool) → T b → b ≡ true
T_true true t = refl
T_true false t = absurd t

pub true_T : (b : Bool) → b ≡ true → T b
true_T b e = rw e tt

pub or_left : (a b : Bool) → T a → T (a || b)
or_left true b t = tt
or_left false b t = absurd t

pub or_right : (a b : Bool) → T b → T (a || b)
or_right true b t = tt
or_right false b t = t

pub or_split : (a b : Bool) → (a || b) ≡ false → (a ≡ false) × (b ≡ false)
or_split true b e = absurd (let z : ◌≡◌ {A = ℕ} 0 1 = cc in omega arith)
or_split false b e = (refl, e)

pub passed : (b : Bool) → not b ≡ false → T b
passed true e = tt
passed false e = absurd (let z : ◌≡◌ {A = ℕ} 0 1 = cc in omega arith)
