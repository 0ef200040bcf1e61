-- `text::numbers::put_words` meets its contract: the words fill the room that was made.
use Rattle.std.proofs.Common.{ℕ, ◌≡◌, length, take, ap, ◌∙◌, arith}
use Rattle.std.proofs.lemmas.List.{take_at}
use Rattle.arrayvec.specs.ArrayVec.{array_vec_len}
use Rattle.text.proofs.Putting.{put_last}
use Rattle.text.proofs.numbers.put_words.Goals as goal

pub returns-clause-items : goal.returns-clause-items
returns-clause-items g c =
    let long = ap length c.deref_mut.ensures.value in
    let front : take c.len-at.result c.deref_mut.result.now ≡ c.args.out.now.items =
    ap (λ (n : ℕ). take n c.deref_mut.result.now) c.len-at.ensures.value ∙ ap (take (array_vec_len c.args.out.now)) c.deref_mut.ensures.value ∙ c.loop-line.invariant.3 in
    take_at c.put_words_at.new.out _ _ (c.put_words_at.auto.out ∙ long)
    ∙ put_last c.put_words_at.ensures.0 front (omega (arith, c.put_words_at.ensures.1, c.loop-line.invariant.4, c.in-None.ensures.steps))
