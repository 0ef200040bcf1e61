-- A number's decimal text is std's, and the fewest digits that hold it.
use Rattle.std.proofs.Common.{ℕ, zero, suc, ◌+◌, ◌-◌, ◌≡◌, ◌^◌, ◌*◌, ◌/◌, ◌%◌, ◌<◌, ◌≤◌, Bool, true, false, ltb, List, [], ◌∷◌, ◌++◌, refl, sym, ap, subst, ◌∙◌, arith}
use borrow.Author.Tests.{lt-ltb, le-ltb, ltb-true, ltb-false}
use lib.Dec.{lit≤}
use native.Mathlib.Nat.{pow-suc, one-le-pow, lt_of_lt_of_le}
use Rattle.io.specs.Digits.{hex_digit_ascii, last_digits, IsDigitCount}
use Rattle.std.specs.Fmt as std
use Rattle.std.proofs.lemmas.Fmt.{decimal_digit, decimal_step}
use Rattle.text.specs.Numbers.{decimal_in, decimal}

small : (most n : ℕ) → n < 10 → std.decimal n ≡ decimal_in (suc most) n
small most n h = decimal_digit n h ∙ sym (rw (lt-ltb n 10 h, decimal_in) (rw (lt-ltb n 10 h)))

large : (most n : ℕ) → n < 2 ^ 64 → 10 ≤ n → std.decimal (n / 10) ≡ decimal_in most (n / 10) → std.decimal n ≡ decimal_in (suc most) n
large most n fits h tenth =
    let last : n % 10 < 10 = omega arith in
    decimal_step n h fits
    ∙ ap (λ (l : List ℕ). l ++ ((48 + n % 10) ∷ [])) tenth
    ∙ sym (rw (le-ltb n 10 h, decimal_in) (rw (lt-ltb (n % 10) 10 last)))

-- of as many digits at most as are allowed
decimals : (most n : ℕ) → n < 2 ^ 64 → n < 10 ^ suc most → std.decimal n ≡ decimal_in (suc most) n
decimals zero n fits within = small zero n within
decimals (suc most) n fits within =
    let e : 10 ^ suc (suc most) ≡ 10 ^ suc most * 10 = pow-suc 10 (suc most) in
    go (ltb n 10) refl (decimals most (n / 10) (omega arith) (omega arith))
  where
    go : (b : Bool) → ltb n 10 ≡ b → std.decimal (n / 10) ≡ decimal_in (suc most) (n / 10) → std.decimal n ≡ decimal_in (suc (suc most)) n
    go true e tenth = small (suc most) n (ltb-true n 10 e)
    go false e tenth = large (suc most) n fits (ltb-false n 10 e) tenth

pub decimal_is : (n : ℕ) → n < 2 ^ 64 → std.decimal n ≡ decimal n
unfolding decimal
decimal_is n fits = decimals 19 n fits (lt_of_lt_of_le fits (lit≤ tt))

-- a further digit is needed
needed : (n k : ℕ) → IsDigitCount 10 1 n (suc (suc k)) → 10 ^ suc k ≤ n
needed n k f =
    let e : suc (suc k) - 1 ≡ suc k = omega arith in
    subst (λ (m : ℕ). 10 ^ m ≤ n) e (f.2 (omega arith))

-- a number below 10 has one digit
one_digit : (n k : ℕ) → n < 10 → IsDigitCount 10 1 n k → k ≡ 1
one_digit n zero small f = let h : 1 ≤ 0 = f.0 in omega arith
one_digit n (suc zero) small f = refl
one_digit n (suc (suc k)) small f =
    let e : 10 ^ suc k ≡ 10 ^ k * 10 = pow-suc 10 k in
    let p : 1 ≤ 10 ^ k = one-le-pow k 10 (omega arith) in
    omega (arith, needed n k f)

-- any other has one more than its tenth
fewer_digits : (n k : ℕ) → 10 ≤ n → IsDigitCount 10 1 n (suc (suc k)) → IsDigitCount 10 1 (n / 10) (suc k)
fewer_digits n k large f =
    let h : n < 10 ^ suc (suc k) = f.1 in
    let e : 10 ^ suc (suc k) ≡ 10 ^ suc k * 10 = pow-suc 10 (suc k) in
    let l : 10 ^ suc k ≤ n = needed n k f in
    let d : 10 ^ suc k ≡ 10 ^ k * 10 = pow-suc 10 k in
    let s : suc k - 1 ≡ k = omega arith in
    (omega arith, omega arith, λ t. subst (λ (m : ℕ). 10 ^ m ≤ n / 10) (sym s) (omega arith))

small_digits : (most n k : ℕ) → n < 10 → IsDigitCount 10 1 n k → last_digits 10 k n ≡ decimal_in (suc most) n
small_digits most n k h f =
    let r : n % 10 ≡ n = omega arith in
    ap (λ (j : ℕ). last_digits 10 j n) (one_digit n k h f) ∙ ap (λ (m : ℕ). hex_digit_ascii m ∷ []) r ∙ sym (rw (lt-ltb n 10 h, decimal_in) (rw (lt-ltb n 10 h)))

-- by the digits of its tenth
module _ (most n : ℕ) (tenth : (j : ℕ) → IsDigitCount 10 1 (n / 10) j → last_digits 10 j (n / 10) ≡ decimal_in most (n / 10)) where
  large_digits : (k : ℕ) → 10 ≤ n → IsDigitCount 10 1 n k → last_digits 10 k n ≡ decimal_in (suc most) n
  large_digits zero h f = let z : 1 ≤ 0 = f.0 in absurd (omega arith)
  large_digits (suc zero) h f = let z : n < 10 ^ 1 = f.1 in absurd (omega arith)
  large_digits (suc (suc k)) h f =
      ap (λ (l : List ℕ). l ++ (hex_digit_ascii (n % 10) ∷ [])) (tenth (suc k) (fewer_digits n k h f)) ∙ sym (rw (le-ltb n 10 h, decimal_in))

  either_digits : (k : ℕ) → IsDigitCount 10 1 n k → last_digits 10 k n ≡ decimal_in (suc most) n
  either_digits k f = go (ltb n 10) refl
    where
      go : (b : Bool) → ltb n 10 ≡ b → last_digits 10 k n ≡ decimal_in (suc most) n
      go true e = small_digits most n k (ltb-true n 10 e) f
      go false e = large_digits k (ltb-false n 10 e) f

digits_in : (most n k : ℕ) → n < 10 ^ suc most → IsDigitCount 10 1 n k → last_digits 10 k n ≡ decimal_in (suc most) n
digits_in zero n k fits f = small_digits zero n k fits f
digits_in (suc most) n k fits f =
    let e : 10 ^ suc (suc most) ≡ 10 ^ suc most * 10 = pow-suc 10 (suc most) in
    either_digits (suc most) n (λ j g. digits_in most (n / 10) j (omega arith) g) k f

pub decimal_digits : (n k : ℕ) → n < 2 ^ 64 → IsDigitCount 10 1 n k → last_digits 10 k n ≡ decimal n
unfolding decimal
decimal_digits n k fits f = digits_in 19 n k (lt_of_lt_of_le fits (lit≤ tt)) f
