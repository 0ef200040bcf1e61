-- Decimal text digit by digit: the cases of one more digit.
use Rattle.std.proofs.Common.{ℕ, ◌≡◌, ◌+◌, ◌-◌, ◌*◌, ◌^◌, ◌<◌, ◌≤◌, Bool, true, false, leb, List, length, get_or, drop, refl, sym, ap, inl, inr, arith, add-one, drop-cons, Option, Some, None, SomeIff}
use borrow.Author.Tests.{le-leb, lt-ltb, le-ltb, leb-true, eq-eqb, ne_eqb}
use lib.Seq.{drop-length}
use Rattle.std.specs.Char.{IsDigitOf, NotDecimalDigitIn}
use Rattle.text.specs.Numbers.{with_digit, with_digits, number_in}

-- below 10 a digit's character is no letter
pub digit_is : (b d : ℕ) → d < 10 → IsDigitOf b d → b ≡ 48 + d
digit_is b d small (inl p) = sym p.1
digit_is b d small (inr (inl p)) = absurd (omega arith)
digit_is b d small (inr (inr p)) = absurd (omega arith)

module _ (n b : ℕ) where
  pub no_digit : NotDecimalDigitIn 10 b → None ≡ with_digit n b
  unfolding with_digit
  no_digit h = go (leb 48 b) refl (leb b 57) refl
    where
      go : (x : Bool) → leb 48 b ≡ x → (y : Bool) → leb b 57 ≡ y → None ≡ with_digit n b
      go false e y f = sym (rw e)
      go true e false f = sym (rw (e, f))
      go true e true f =
          let at_most : b ≤ 57 = leb-true b 57 f in
          let over : 48 + 10 ≤ b = h (leb-true 48 b e) at_most in
          absurd (omega arith)

  module _ (d : ℕ) (small : d < 10) (digit : b ≡ 48 + d) where
    pub too_large : 2 ^ 64 ≤ n * 10 → None ≡ with_digit n b
    unfolding with_digit
    too_large t = sym (rw (le-leb 48 b (omega arith), le-leb b 57 (omega arith), le-ltb (10 * n + (b - 48)) (2 ^ 64) (omega arith)))

    pub one_more : (r : Option ℕ) → SomeIff r (n * 10 + d < 2 ^ 64) (n * 10 + d) → r ≡ with_digit n b
    unfolding with_digit
    one_more (Some x) s =
        sym (rw (le-leb 48 b (omega arith), le-leb b 57 (omega arith), lt-ltb (10 * n + (b - 48)) (2 ^ 64) (let h = s.0 in omega arith)) (ap Some (let h = s.1 in omega arith)))
    one_more None s = sym (rw (le-leb 48 b (omega arith), le-leb b 57 (omega arith), le-ltb (10 * n + (b - 48)) (2 ^ 64) (omega (arith, s))))

module _ (text : List ℕ) where
  pub no_digits : length text ≡ 0 → None ≡ number_in text
  unfolding number_in
  no_digits e = sym (rw (eq-eqb (length text) 0 e))

  pub some_digits : (length text ≡ 0 → ⊥) → number_in text ≡ with_digits 0 text
  unfolding number_in
  some_digits ne = rw (ne_eqb (length text) 0 ne)

  module _ (n i : ℕ) (within : i < length text) where
    pub digit_taken : (m : ℕ) → with_digit n (get_or text i 0) ≡ Some m → with_digits n (drop i text) ≡ with_digits m (drop (i + 1) text)
    digit_taken m e = rw (add-one, drop-cons text i 0 within, e, with_digits)

    pub digit_refused : with_digit n (get_or text i 0) ≡ None → with_digits n (drop i text) ≡ None
    digit_refused e = rw (drop-cons text i 0 within, e, with_digits)

  pub digits_ended : (n i : ℕ) → i ≡ length text → with_digits n (drop i text) ≡ Some n
  digits_ended n i e = rw (e, drop-length text)
