-- `stand_row` meets its contract: one more pair is told.
use Rattle.std.proofs.Common.{◌∙◌, arith}
use native.Mathlib.Nat.{add_assoc}
use Rattle.stricter_laws.proofs.Fill.{filled_next}
use Rattle.stricter_marks.proofs.Rows.{stand-value}
use Rattle.stricter_marks.proofs.spread.stand_row.Goals as goal

pub loop-j-preserved : goal.loop-j-preserved
loop-j-preserved c =
    rw (← add_assoc c.args.base c.loop-j.j 1)
    (filled_next _ (omega arith) (omega arith) c.loop-j.invariant (c.standing.ensures ∙ stand-value c.args.bcodes.now c.args.base c.loop-j.j))
