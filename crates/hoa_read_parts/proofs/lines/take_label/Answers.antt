-- `take_label` meets its contract: `&` and a literal follow the literals before.
use Rattle.std.proofs.Common.{refl, arith}
use Rattle.hoa_laws.proofs.Labels.{label-none, label-no-first, labelled-first, label-no-sign, label-no-literal, labelled-next}
use Rattle.hoa_read_parts.proofs.lines.take_label.Goals as goal

pub returns-in_err-a : goal.returns-in_err-a
returns-in_err-a c = rw c.from_residual.ensures (label-none c.in_err-a.ensures c.args.b c.if-b-eq0.true)

pub returns-then-b-eq0 : goal.returns-then-b-eq0
returns-then-b-eq0 c = let A = c.in_ok-a.ensures in (A.0, label-none A.1 c.args.b c.if-b-eq0.true, A.2 (omega arith))

pub returns-in_err-f : goal.returns-in_err-f
returns-in_err-f c = rw c.from_residual-in_err-f.ensures (label-no-first c.args.b (omega arith) (omega arith) c.in_err-f.ensures refl refl)

pub loop-i-init : goal.loop-i-init
loop-i-init c = let F = c.in_ok-f.ensures in labelled-first c.args.b (omega arith) (omega arith) F.1 F.0 F.2

pub returns-in_err-c : goal.returns-in_err-c
returns-in_err-c c = rw c.from_residual-in_err-c.ensures (label-no-sign c.args.b (omega arith) c.loop-i.invariant (omega arith) c.in_err-c.ensures refl refl)

pub returns-in_err-g : goal.returns-in_err-g
returns-in_err-g c =
    rw c.from_residual-in_err-g.ensures (label-no-literal c.args.b (omega arith) c.loop-i.invariant (omega arith) c.in_ok-c.ensures.1 c.in_ok-c.ensures.0 c.in_err-g.ensures refl refl)

pub loop-i-preserved : goal.loop-i-preserved
loop-i-preserved c = let G = c.in_ok-g.ensures in
    labelled-next c.args.b (omega arith) c.loop-i.invariant (omega arith) c.in_ok-c.ensures.1 c.in_ok-c.ensures.0 G.1 G.0 G.2
