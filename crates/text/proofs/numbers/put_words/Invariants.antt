-- `text::numbers::put_words` meets its contract: what stood there stands, and there is room for all but the lines that are left.
use Rattle.std.proofs.Common.{◌≡◌, ◌+◌, ◌*◌, length, take}
use Rattle.std.specs.Slice.Iter.{chunks_rest, chunks_size}
use Rattle.arrayvec.specs.ArrayVec.{array_vec_len}
use Rattle.text.proofs.numbers.put_words.Given as goal

abbrev pub invariant-loop-line : goal.invariant-loop-line
invariant-loop-line g l =
    (goal.iterator-loop-line g).can_next l.line-iterator
    × (goal.iterator-loop-line g).is_finite l.line-iterator
    × (chunks_size l.line-iterator ≡ 16)
    × (take (array_vec_len l.initial.out) l.out.items ≡ l.initial.out.items)
    × (array_vec_len l.out + 5 * length (chunks_rest l.line-iterator) ≡ array_vec_len l.initial.out + 5 * length l.words)
