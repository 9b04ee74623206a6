-- `take_marked` meets its contract: accepting numbers come first.
use Rattle.std.proofs.Common.{refl, arith}
use Rattle.hoa_laws.proofs.Blocking.{marked-none, marked-late}
use Rattle.hoa_read_parts.proofs.take_marked.Goals as goal

pub returns-in_err-s : goal.returns-in_err-s
returns-in_err-s c = rw c.from_residual.ensures (marked-none c.args.i c.args.accepting (omega arith) c.in_err-s.ensures refl refl)

pub returns-then-accepting-i : goal.returns-then-accepting-i
returns-then-accepting-i c = marked-late c.args.i c.args.accepting (omega arith) c.in_ok-s.ensures.1 c.in_ok-s.ensures.0 c.if-s-eq0.false (omega arith) refl
