-- `take_edge` meets its contract: the label and the target follow `[`.
use Rattle.std.proofs.Common.{refl, arith}
use Rattle.hoa_laws.proofs.Taking.{one_none}
use Rattle.hoa_laws.proofs.Labels.{edge-no-head, edge-no-label, edge-far, edge-read}
use Rattle.hoa_read_parts.proofs.lines.take_edge.Goals as goal

pub returns-in_err-a : goal.returns-in_err-a
returns-in_err-a c = rw c.from_residual.ensures (edge-no-head c.args.b c.args.n c.args.i (omega arith) (omega arith) c.in_err-a.ensures refl refl)

pub returns-in_err-l : goal.returns-in_err-l
returns-in_err-l c = let A = c.in_ok-a.ensures in
    rw c.from_residual-in_err-l.ensures (edge-no-label c.args.b c.args.n c.args.i (omega arith) (omega arith) A.1 A.0 c.in_err-l.ensures refl refl)

pub returns-in_err-w : goal.returns-in_err-w
returns-in_err-w c = let A = c.in_ok-a.ensures in let L = c.in_ok-l.ensures in
    rw c.from_residual-in_err-w.ensures (one_none refl ((edge-read c.args.b c.args.n c.args.i (omega arith) (omega arith) A.1 A.0 L.1 L.0 c.in_err-w.ensures (omega arith) refl).absent refl))

pub returns-then-n-w : goal.returns-then-n-w
returns-then-n-w c = let A = c.in_ok-a.ensures in let L = c.in_ok-l.ensures in
    edge-far c.args.b c.args.n c.args.i (omega arith) (omega arith) A.1 A.0 L.1 L.0 c.in_ok-w.ensures.1 c.if-n-w.true refl

pub returns : goal.returns
returns c = let W = c.in_ok-w.ensures in let A = c.in_ok-a.ensures in let L = c.in_ok-l.ensures in
    (W.0, edge-read c.args.b c.args.n c.args.i (omega arith) (omega arith) A.1 A.0 L.1 L.0 W.1 c.if-n-w.false refl)
