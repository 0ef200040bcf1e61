-- Sums along a body's words, as the loops from the right make them.
use Prim.Native.Nat.{ℕ, suc, ◌+◌, ◌*◌, ◌-◌, ◌/◌, ◌≤◌, ◌<◌}
use mathlib.Core.Path.{◌≡◌, sym, ap, ◌∙◌}
use mathlib.Core.List.{List, ◌∷◌}
use native.Mathlib.Omega.{arith}
use borrow.Author.Tests.{lt-ltb, le-ltb}
use lib.ListN.{length, drop}
use Rattle.laws.specs.Sums.{sum_of, depth_of}
use Rattle.model.specs.File.{words_in}
use Rattle.grammar.specs.Meaning.{word_in}
use Rattle.grammar.specs.Measures.{own_by, before_by}
use Rattle.grammar.proofs.BodyWords.{body_rest, body_end}

-- one word more to the left of a place: over it, or with its whole tree before it
module _ (rk : ℕ → ℕ) (sizes : List ℕ) (x : ℕ) (xs : List ℕ) where
  depth_over : depth_of rk 0 xs < rk x → depth_of rk 0 (x ∷ xs) ≡ 0
  depth_over h = rw (lt-ltb (depth_of rk 0 xs) (rk x) h)

  depth_beside : rk x ≤ depth_of rk 0 xs → depth_of rk 0 (x ∷ xs) ≡ suc (depth_of rk 0 xs - rk x)
  depth_beside h = rw (le-ltb (depth_of rk 0 xs) (rk x) h)

  before_over : depth_of rk 0 xs < rk x → before_by rk sizes (x ∷ xs) ≡ own_by sizes (suc (depth_of rk 0 xs)) x + before_by rk sizes xs
  before_over h = rw (lt-ltb (depth_of rk 0 xs) (rk x) h)

  before_beside : rk x ≤ depth_of rk 0 xs → before_by rk sizes (x ∷ xs) ≡ own_by sizes 5 x + before_by rk sizes xs
  before_beside h = rw (le-ltb (depth_of rk 0 xs) (rk x) h)

module _ (body : List ℕ) where
  abbrev from : ℕ → List ℕ
  from i = drop i (words_in body)

  -- no words stand after the last
  pub sum_none : (f : ℕ → ℕ) → 0 ≡ sum_of f (from (length body / 2))
  sum_none f = sym (ap (sum_of f) (body_end body))

  pub before_none : (rk : ℕ → ℕ) (sizes : List ℕ) → 0 ≡ before_by rk sizes (from (length body / 2))
  before_none rk sizes = sym (ap (before_by rk sizes) (body_end body))

  pub depth_none : (rk : ℕ → ℕ) → 0 ≡ depth_of rk 0 (from (length body / 2))
  depth_none rk = sym (ap (depth_of rk 0) (body_end body))

  -- the words from the one before the i-th on
  one_more : (i w : ℕ) → 0 < i → i ≤ length body / 2 → w ≡ word_in body (2 * (i - 1)) → from (i - 1) ≡ w ∷ from i
  one_more i w p h e =
      let k : i - 1 + 1 ≡ i = omega arith in
      body_rest body (i - 1) (omega arith)
      ∙ ap (λ (v : ℕ). v ∷ from (i - 1 + 1)) (sym e)
      ∙ ap (λ (j : ℕ). w ∷ from j) k

  module _ (i w : ℕ) (some : 0 < i) (within : i ≤ length body / 2) (is : w ≡ word_in body (2 * (i - 1))) where
    pub sum_left : (f : ℕ → ℕ) (n : ℕ) → n ≡ sum_of f (from i) → n + f w ≡ sum_of f (from (i - 1))
    sum_left f n s = omega (arith, ap (sum_of f) (one_more i w some within is))

    module _ (rk : ℕ → ℕ) (sizes : List ℕ) (depth n : ℕ) (sums : n ≡ before_by rk sizes (from i)) (deep : depth ≡ depth_of rk 0 (from i)) where
      pub word_over : depth < rk w → (n + own_by sizes (depth + 1) w ≡ before_by rk sizes (from (i - 1))) × (0 ≡ depth_of rk 0 (from (i - 1)))
      word_over h =
          let k : depth + 1 ≡ suc (depth_of rk 0 (from i)) = omega arith in
          let q = one_more i w some within is in (
            omega (
              arith,
              ap (before_by rk sizes) q,
              before_over rk sizes w (from i) (omega arith),
              ap (λ (m : ℕ). own_by sizes m w) k,
            ),
            sym (ap (depth_of rk 0) q ∙ depth_over rk sizes w (from i) (omega arith)),
          )

      pub word_beside : rk w ≤ depth → (n + own_by sizes 5 w ≡ before_by rk sizes (from (i - 1))) × (depth - rk w + 1 ≡ depth_of rk 0 (from (i - 1)))
      word_beside h =
          let q = one_more i w some within is in (
            omega (arith, ap (before_by rk sizes) q, before_beside rk sizes w (from i) (omega arith)),
            omega (arith, ap (depth_of rk 0) q, depth_beside rk sizes w (from i) (omega arith)),
          )
