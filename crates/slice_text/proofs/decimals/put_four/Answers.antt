-- `slice_text::decimals::put_four` meets its contract: the digits before the last two, then these.
use Rattle.std.proofs.Common.{arith}
use Rattle.slice_text.proofs.Puts.{put_as, put_then}
use Rattle.slice_text.proofs.Pairs.{pair-last, pair-length}
use Rattle.slice_text.proofs.decimals.put_four.Goals as goal

pub put_two-end-requires : goal.put_two-end-requires
put_two-end-requires c = (omega arith, omega (arith, pair-length c.args.x c.if-x-lt100.false))

pub put_pair-requires : goal.put_pair-requires
put_pair-requires c = omega (arith, c.put_two-end.ensures.ends, pair-length c.args.x c.if-x-lt100.false)

pub returns : goal.returns
returns c = put_as (pair-last c.args.x c.if-x-lt100.false) (put_then c.put_two-end.ensures c.put_pair.ensures)
