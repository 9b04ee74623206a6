-- `take_numbered` meets its contract: the number and the newline follow the bytes s.
use Rattle.std.proofs.Common.{refl}
use Rattle.hoa_laws.proofs.Taking.{one_none}
use Rattle.hoa_laws.proofs.Heads.{numbered-no-number, numbered}
use Rattle.hoa_read_parts.proofs.lines.take_numbered.Goals as goal

pub returns-in_err-w : goal.returns-in_err-w
returns-in_err-w c = rw c.from_residual-in_err-w.ensures (numbered-no-number c.in_ok-a.ensures.1 c.in_ok-a.ensures.0 c.in_err-w.ensures refl refl)

pub returns-in_err-e : goal.returns-in_err-e
returns-in_err-e c =
    rw c.from_residual-in_err-e.ensures (one_none refl ((numbered c.in_ok-a.ensures.1 c.in_ok-a.ensures.0 c.in_ok-w.ensures.1 c.in_ok-w.ensures.0 c.in_err-e.ensures).absent refl))
