-- `text::numbers::read_decimal` meets its contract: after some digits their number is left with the other digits to come.
use Rattle.std.proofs.Common.{◌≡◌, drop}
use Rattle.text.specs.Numbers.{number_in, with_digits}
use Rattle.text.proofs.numbers.read_decimal.Given as goal

abbrev pub invariant-loop-b : goal.invariant-loop-b
invariant-loop-b l = number_in l.text ≡ with_digits l.n (drop l.b-index l.text)
