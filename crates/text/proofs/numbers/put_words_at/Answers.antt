-- `text::numbers::put_words_at` meets its contract: one more word, with what stands after it.
use Rattle.std.proofs.Common.{ap, sym, add-one, arith}
use Rattle.text.specs.Numbers.{words_to}
use Rattle.text.proofs.Putting.{put_then, put_as}
use Rattle.text.proofs.numbers.put_words_at.Goals as goal

pub loop-i-preserved : goal.loop-i-preserved
loop-i-preserved c =
    let ws = c.args.words.now in
    let l = c.loop-i in (
      put_as (ap (words_to ws) (sym (add-one l.i))) (put_then l.invariant.0 (rw c.separator.ensures at c.put_word_at-end.ensures.0)),
      omega arith,
      omega arith,
    )
