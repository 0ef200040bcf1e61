-- Numbers as text, in ASCII.
use Rattle.std.specs.Prelude.{ℕ, zero, suc, ◌+◌, ◌-◌, ◌*◌, ◌/◌, ◌%◌, ◌^◌, true, false, cond, ◌&&◌, ◌||◌, List, [], ◌∷◌, ◌++◌, leb, ltb, eqb, length, get_or, Option, Some, None}
use Rattle.io.specs.Digits.{hex_digit_ascii}

-- the fewest decimal digits, of at most `most`
abbrev pub decimal_in : ℕ → ℕ → List ℕ
decimal_in zero n = []
decimal_in (suc most) n = elim (ltb n 10) [ true ↦ hex_digit_ascii n ∷ [] | false ↦ decimal_in most (n / 10) ++ (hex_digit_ascii (n % 10) ∷ []) ]

-- 20 digits hold 64 bits
unfoldable pub decimal : ℕ → List ℕ
decimal n = decimal_in 20 n

-- a word in hex, four digits
unfoldable pub hex_word : ℕ → List ℕ
hex_word w = hex_digit_ascii (w / 4096) ∷ hex_digit_ascii (w / 256 % 16) ∷ hex_digit_ascii (w / 16 % 16) ∷ hex_digit_ascii (w % 16) ∷ []

-- what stands after word i of n: the line's end after every sixteenth word and after the last, otherwise a blank
abbrev pub separator_after : ℕ → ℕ → ℕ
separator_after i n = cond (eqb (i % 16) 15 || eqb (i + 1) n) 10 32

-- the first i words, each with what stands after it
abbrev pub words_to : List ℕ → ℕ → List ℕ
words_to ws zero = []
words_to ws (suc i) = words_to ws i ++ (hex_word (get_or ws i 0) ++ (separator_after i (length ws) ∷ []))

abbrev pub word_lines : List ℕ → List ℕ
word_lines ws = words_to ws (length ws)

-- a number with one more digit, where the byte is a digit and the number stays below 2^64
unfoldable pub with_digit : ℕ → ℕ → Option ℕ
with_digit n b = cond (leb 48 b && leb b 57 && ltb (10 * n + (b - 48)) (2 ^ 64)) (Some (10 * n + (b - 48))) None

abbrev pub with_digits : ℕ → List ℕ → Option ℕ
with_digits n [] = Some n
with_digits n (b ∷ bs) = elim (with_digit n b) [ None ↦ None | Some m ↦ with_digits m bs ]

-- decimal text: digits alone, at least one; zeros may stand in front
unfoldable pub number_in : List ℕ → Option ℕ
number_in text = cond (eqb (length text) 0) None (with_digits 0 text)
