-- `spread_marks` meets its contract: the rows before i have the marks of their cores.
use Rattle.std.proofs.Common.{◌*◌, length}
use Rattle.stricter_laws.specs.Fill.{Filled}
use Rattle.stricter_marks.specs.Rows.{taken_at_lem}
use Rattle.stricter_marks.proofs.spread.spread_marks.Given as goal

abbrev pub invariant-loop-i : goal.invariant-loop-i
invariant-loop-i l = Filled (taken_at_lem l.acodes l.bcodes l.fn.marks) 0 (l.i * length l.bcodes) l.fn.marks l.marks
