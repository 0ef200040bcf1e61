-- `text::lines::put_at` meets its contract: the text is copied over the part that it takes.
use Rattle.std.proofs.Common.{arith, refl}
use Rattle.text.proofs.Putting.{put_part}
use Rattle.text.proofs.lines.put_at.Goals as goal

pub returns : goal.returns
returns c = put_part c.args.text.now _ c.args.out.now c.args.at _ c.copy_from_slice.ensures.after refl (omega arith)
