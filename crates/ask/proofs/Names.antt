-- A name other than an operation's isn't the same as it.
use Rattle.std.proofs.Common.{◌≡◌, ℕ, Bool, true, false, nat_eq, ◌&&◌, List, [], ◌∷◌, refl, ap, ◌∙◌, sym}
use Rattle.std.specs.Str.{bytes_eq}
use Rattle.std.proofs.lemmas.Slice.Eq.{bytes_eq-Decides}
use Rattle.model.specs.Trees.{same}

same_is : (xs ys : List ℕ) → same xs ys ≡ bytes_eq xs ys
same_is [] [] = refl
same_is [] (y ∷ ys) = refl
same_is (x ∷ xs) [] = refl
same_is (x ∷ xs) (y ∷ ys) = ap (λ (b : Bool). nat_eq x y && b) (same_is xs ys)

pub other_name : (xs ys : List ℕ) → (xs ≡ ys → ⊥) → same xs ys ≡ false
other_name xs ys differs = go (same xs ys) refl
  where
    go : (b : Bool) → same xs ys ≡ b → b ≡ false
    go true e = absurd (differs ((bytes_eq-Decides xs ys).0 (sym (same_is xs ys) ∙ e)))
    go false e = refl
