-- `take_target` meets its contract: the number and the newline follow `]`.
use Rattle.std.proofs.Common.{refl}
use Rattle.hoa_laws.proofs.Taking.{one_none}
use Rattle.hoa_laws.proofs.Heads.{numbered}
use Rattle.hoa_read_parts.proofs.lines.take_target.Goals as goal

pub returns-in_err-e : goal.returns-in_err-e
returns-in_err-e c =
    rw c.from_residual-in_err-e.ensures (one_none refl ((numbered c.in_ok-a.ensures.1 c.in_ok-a.ensures.0 c.in_ok-w.ensures.1 c.in_ok-w.ensures.0 c.in_err-e.ensures).absent refl))
