-- `text::numbers::with_digit` meets its contract, case by case.
use Rattle.std.proofs.Common.{ℕ, ◌≡◌, ◌+◌, ◌<◌, ◌^◌, SomeIff, subst, ◌∙◌, arith}
use Rattle.std.proofs.lemmas.Grind.{common_steps}
use Rattle.std.specs.Char.{NotDecimalDigitIn}
use Rattle.text.proofs.ReadingDigits.{digit_is, no_digit, too_large, one_more}
use Rattle.text.proofs.numbers.with_digit.Goals as goal

pub returns-in_err-digit : goal.returns-in_err-digit
returns-in_err-digit c =
    c.from_residual.ensures
    ∙ no_digit c.args.n c.args.b (subst (λ (b : ℕ). NotDecimalDigitIn 10 b) c.from.ensures c.in_err-digit.ensures.cases)

pub returns-in_err-checked_mul : goal.returns-in_err-checked_mul
returns-in_err-checked_mul c =
    let d = c.in_ok-digit.digit in
    let small : d < 10 = omega (arith, c.in_ok-digit.ensures.value) in
    let digit : c.args.b ≡ 48 + d = omega (arith, digit_is c.from.result d small c.in_ok-digit.ensures.cases) in
    c.from_residual-in_err-checked_mul.ensures ∙ too_large c.args.n c.args.b d small digit (omega (arith, c.in_err-checked_mul.ensures))

pub returns : goal.returns
returns c =
    let d = c.in_ok-digit.digit in
    let small : d < 10 = omega (arith, c.in_ok-digit.ensures.value) in
    let digit : c.args.b ≡ 48 + d = omega (arith, digit_is c.from.result d small c.in_ok-digit.ensures.cases) in
    one_more c.args.n c.args.b d small digit c.checked_add.result (subst (λ (s : ℕ). SomeIff c.checked_add.result (s < 2 ^ 64) s) (grind (arith, common_steps)) c.checked_add.ensures)
