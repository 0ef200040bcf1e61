-- `text::numbers::put_words_at` meets its contract: after i turns the first i words are put, five bytes each.
use Rattle.std.proofs.Common.{◌≡◌, ◌+◌, ◌*◌, length}
use Rattle.text.specs.Lines.{Put}
use Rattle.text.specs.Numbers.{words_to}
use Rattle.text.proofs.numbers.put_words_at.Given as goal

abbrev pub invariant-loop-i : goal.invariant-loop-i
invariant-loop-i l = Put (words_to l.words l.i) l.initial.out l.at l.out l.end × (l.end ≡ l.at + 5 * l.i) × (length l.out ≡ length l.initial.out)
