-- `text::numbers::put_word_at` meets its contract: four digits and what stands after them.
use Rattle.std.proofs.Common.{refl}
use Rattle.text.specs.Numbers.{hex_word}
use Rattle.text.proofs.Putting.{put_as, put_five}
use Rattle.text.proofs.numbers.put_word_at.Goals as goal

pub returns : goal.returns
unfolding hex_word
returns c = (
  put_as
      (rw (c.glyph.ensures, c.glyph-2.ensures, c.glyph-3.ensures, c.glyph-4.ensures))
      (put_five c.glyph.result c.glyph-2.result c.glyph-3.result c.glyph-4.result c.args.after c.args.out.now c.args.at),
  refl,
)
