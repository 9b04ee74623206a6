-- `slice_text::decimals::put_six` meets its contract: the digits before the last four, then these.
use Rattle.std.proofs.Common.{arith}
use Rattle.slice_text.proofs.Puts.{put_as, put_then}
use Rattle.slice_text.proofs.Pairs.{pairs-last, pairs-length}
use Rattle.slice_text.proofs.decimals.put_six.Goals as goal

pub put_two-end-requires : goal.put_two-end-requires
put_two-end-requires c = (omega arith, omega (arith, pairs-length c.args.x c.if-x-lt10000.false))

pub put_pair-last-requires : goal.put_pair-last-requires
put_pair-last-requires c = omega (arith, c.put_two-end.ensures.ends, pairs-length c.args.x c.if-x-lt10000.false)

pub put_pair-requires : goal.put_pair-requires
put_pair-requires c = omega (arith, c.put_pair-last.ensures.ends, c.put_two-end.ensures.ends, pairs-length c.args.x c.if-x-lt10000.false)

pub returns : goal.returns
returns c = put_as (pairs-last c.args.x c.if-x-lt10000.false) (put_then c.put_two-end.ensures (put_then c.put_pair-last.ensures c.put_pair.ensures))
