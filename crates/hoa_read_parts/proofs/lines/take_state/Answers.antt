-- `take_state` meets its contract: the number is i, and the mark or the newline follows it.
use Rattle.std.proofs.Common.{refl, arith}
use Rattle.hoa_laws.proofs.Heads.{state-no-head, state-cut, state-no-number, state-other, state-accepting, state-rejecting}
use Rattle.hoa_read_parts.proofs.lines.take_state.Goals as goal

pub returns-in_err-a : goal.returns-in_err-a
returns-in_err-a c = rw c.from_residual.ensures (state-no-head c.args.i (omega arith) c.in_err-a.ensures refl refl)

pub returns-then-text-a : goal.returns-then-text-a
returns-then-text-a c = state-cut c.args.i (omega arith) c.in_ok-a.ensures.1 c.in_ok-a.ensures.0 c.if-text-a.true refl

pub returns-in_err-w : goal.returns-in_err-w
returns-in_err-w c = let A = c.in_ok-a.ensures in rw c.from_residual-in_err-w.ensures (state-no-number c.args.i (omega arith) A.1 A.0 c.in_err-w.ensures refl refl)

pub returns-then-w-i : goal.returns-then-w-i
returns-then-w-i c = let A = c.in_ok-a.ensures in let W = c.in_ok-w.ensures in state-other c.args.i (omega arith) A.1 A.0 W.1 W.0 c.if-w-i.true refl

pub returns-in-Some : goal.returns-in-Some
returns-in-Some c = let H = c.in-Some.ensures in let A = c.in_ok-a.ensures in let W = c.in_ok-w.ensures in
    (H.0, state-accepting c.args.i (omega arith) A.1 A.0 W.1 W.0 c.if-w-i.false H.1 H.0)

pub returns-in_err-d : goal.returns-in_err-d
returns-in_err-d c = let A = c.in_ok-a.ensures in let W = c.in_ok-w.ensures in
    rw c.from_residual-in_err-d.ensures (state-rejecting c.args.i (omega arith) A.1 A.0 W.1 W.0 c.if-w-i.false c.in_default.ensures refl c.in_err-d.ensures)

pub returns : goal.returns
returns c = let D = c.in_ok-d.ensures in let A = c.in_ok-a.ensures in let W = c.in_ok-w.ensures in
    (D.0, state-rejecting c.args.i (omega arith) A.1 A.0 W.1 W.0 c.if-w-i.false c.in_default.ensures refl D.1)
