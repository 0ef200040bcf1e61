-- `text::numbers::put_decimal_at` meets its contract: the digits put are the number's decimal text.
use Rattle.std.proofs.Common.{◌∙◌, arith}
use Rattle.text.proofs.Putting.{put_as}
use Rattle.text.proofs.Decimals.{decimal_is}
use Rattle.text.proofs.numbers.put_decimal_at.Goals as goal

pub returns : goal.returns
returns c = (
  put_as (c.as_bytes.ensures.value ∙ c.format.ensures.text ∙ decimal_is c.args.n c.ranges.n.fits) c.put_at.ensures,
  omega (arith, c.put_at.ensures.ended, c.format.ensures.fits, c.as_bytes.ensures.len),
)
