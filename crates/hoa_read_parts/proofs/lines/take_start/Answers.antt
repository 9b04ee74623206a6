-- `take_start` meets its contract: a line with another number is not that of i.
use Rattle.std.proofs.Common.{refl, arith}
use Rattle.hoa_laws.proofs.Taking.{one_none}
use Rattle.hoa_laws.proofs.Heads.{start-other, start-same}
use Rattle.hoa_read_parts.proofs.lines.take_start.Goals as goal

pub returns-in_err-w : goal.returns-in_err-w
returns-in_err-w c = rw c.from_residual.ensures (start-same c.args.i {x = c.args.i} (omega arith) (one_none refl (c.in_err-w.ensures.absent refl)) refl)

pub returns-then-w-i : goal.returns-then-w-i
returns-then-w-i c = start-other c.args.i (omega arith) c.in_ok-w.ensures.1 c.if-w-i.true

pub returns : goal.returns
returns c = (c.in_ok-w.ensures.0, start-same c.args.i (omega arith) c.in_ok-w.ensures.1 c.if-w-i.false)
