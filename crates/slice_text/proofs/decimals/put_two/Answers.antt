-- `slice_text::decimals::put_two` meets its contract: one digit or two.
use Rattle.std.proofs.Common.{length, ap, arith}
use Rattle.slice_text.proofs.Decimal.{one-digit}
use Rattle.slice_text.proofs.Puts.{put_as}
use Rattle.slice_text.proofs.Pairs.{two_digits}
use Rattle.slice_text.proofs.decimals.put_two.Goals as goal

pub put_byte-requires : goal.put_byte-requires
put_byte-requires c = omega (arith, ap length (one-digit c.args.x c.if-x-lt10.true))

pub returns-then-x-lt10 : goal.returns-then-x-lt10
returns-then-x-lt10 c = put_as (one-digit c.args.x c.if-x-lt10.true) c.put_byte.ensures

pub put_pair-requires : goal.put_pair-requires
put_pair-requires c = omega (arith, ap length (two_digits c.args.x c.if-x-lt10.false c.requires.0))

pub returns : goal.returns
returns c = put_as (two_digits c.args.x c.if-x-lt10.false c.requires.0) c.put_pair.ensures
