-- A body's words where they stand in its bytes, and the tests on them from the left, as the loops make them.
use Prim.Native.Nat.{ℕ, zero, suc, ◌+◌, ◌*◌, ◌/◌, ◌<◌}
use mathlib.Core.Path.{◌≡◌, refl, sym, ap, ◌∙◌}
use mathlib.Core.List.{List, [], ◌∷◌}
use native.Mathlib.Numerals.{add-one}
use native.Mathlib.Omega.{arith}
use lib.ListN.{length, take, drop, get_or}
use lib.Seq.{drop-cons, take-nil, drop-length}
use Rattle.model.specs.File.{words_in}
use Rattle.grammar.specs.Meaning.{word_in}

pub length_body : (body : List ℕ) → length (words_in body) ≡ length body / 2
length_body [] = refl
length_body (b ∷ []) = refl
length_body (b ∷ c ∷ bs) = omega (arith, length_body bs)

word_of : (bs : List ℕ) (i : ℕ) → 2 * i + 1 < length bs → get_or (words_in bs) i 0 ≡ word_in bs (2 * i)
word_of [] i h = absurd (omega arith)
word_of (b ∷ []) i h = absurd (omega arith)
word_of (b ∷ c ∷ bs) zero h = refl
word_of (b ∷ c ∷ bs) (suc i) h =
    word_of bs i (omega arith)
    ∙ ap (λ (n : ℕ). get_or bs (2 * i) 0 + 256 * get_or (b ∷ c ∷ bs) n 0) two
    ∙ ap (λ (n : ℕ). get_or (b ∷ c ∷ bs) n 0 + 256 * get_or (b ∷ c ∷ bs) (2 * suc i + 1) 0) one
  where
    one : suc (suc (2 * i)) ≡ 2 * suc i
    one = omega arith

    two : suc (suc (2 * i + 1)) ≡ 2 * suc i + 1
    two = omega arith

pub words_take : (i : ℕ) (bs : List ℕ) → words_in (take (2 * i) bs) ≡ take i (words_in bs)
words_take zero bs = refl
words_take (suc i) [] = ap words_in (take-nil (2 * suc i))
words_take (suc i) (b ∷ []) = let k : 2 * suc i ≡ suc (suc (2 * i)) = omega arith in ap (λ (n : ℕ). words_in (take n (b ∷ []))) k
words_take (suc i) (b ∷ c ∷ bs) =
    let k : 2 * suc i ≡ suc (suc (2 * i)) = omega arith in
    ap (λ (n : ℕ). words_in (take n (b ∷ c ∷ bs))) k ∙ ap {B = List ℕ} (λ l. (b + 256 * c) ∷ l) (words_take i bs)

module _ (body : List ℕ) where
  pub body_word : (i : ℕ) → i < length body / 2 → get_or (words_in body) i 0 ≡ word_in body (2 * i)
  body_word i h = word_of body i (omega arith)

  -- the words from the i-th on
  pub body_rest : (i : ℕ) → i < length body / 2 → drop i (words_in body) ≡ word_in body (2 * i) ∷ drop (i + 1) (words_in body)
  body_rest i h =
      drop-cons (words_in body) i 0 (omega (arith, length_body body))
      ∙ ap (λ (w : ℕ). w ∷ drop (suc i) (words_in body)) (body_word i h)
      ∙ ap (λ (n : ℕ). word_in body (2 * i) ∷ drop n (words_in body)) (sym (add-one i))

  pub body_end : drop (length body / 2) (words_in body) ≡ []
  body_end = ap (λ (n : ℕ). drop n (words_in body)) (sym (length_body body)) ∙ drop-length (words_in body)

  pub body_one : length body / 2 ≡ 1 → words_in body ≡ word_in body 0 ∷ []
  body_one e = body_rest 0 (omega arith) ∙ ap (λ (l : List ℕ). word_in body 0 ∷ l) (ap (λ (n : ℕ). drop n (words_in body)) (sym e) ∙ body_end)
