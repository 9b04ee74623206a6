-- `take_literal` meets its contract: the digit stands there, or `!` and the digit.
use Rattle.std.proofs.Common.{refl, arith}
use Rattle.hoa_laws.proofs.Labels.{shifted, literal-plain, literal-none, literal-negated}
use Rattle.hoa_read_parts.proofs.lines.take_literal.Goals as goal

pub returns-in-Some : goal.returns-in-Some
returns-in-Some c = let A = c.in-Some.ensures in (A.0, literal-plain c.args.i A.1 A.0 (shifted c.args.i (omega arith)), A.2 (omega arith))

pub returns-in_err-c : goal.returns-in_err-c
returns-in_err-c c = rw c.from_residual.ensures (literal-none c.args.i c.in_default.ensures refl c.in_err-c.ensures refl refl)

pub returns-in_err-d : goal.returns-in_err-d
returns-in_err-d c =
    rw c.from_residual-in_err-d.ensures (literal-negated c.args.i c.in_default.ensures refl c.in_ok-c.ensures.1 c.in_ok-c.ensures.0 c.in_err-d.ensures)

pub returns : goal.returns
returns c = let D = c.in_ok-d.ensures in
    (D.0, literal-negated c.args.i c.in_default.ensures refl c.in_ok-c.ensures.1 c.in_ok-c.ensures.0 D.1, D.2 (omega arith))
