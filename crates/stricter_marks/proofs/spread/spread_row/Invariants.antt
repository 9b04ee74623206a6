-- `spread_row` meets its contract: the pairs before j have the marks of their cores.
use Rattle.std.proofs.Common.{◌+◌, ◌*◌, length}
use Rattle.stricter_laws.specs.Fill.{Filled}
use Rattle.stricter_marks.specs.Rows.{taken_at_lem}
use Rattle.stricter_marks.proofs.spread.spread_row.Given as goal

abbrev pub invariant-loop-j : goal.invariant-loop-j
invariant-loop-j l = Filled (taken_at_lem l.acodes l.bcodes l.fn.marks) (l.fn.i * length l.bcodes) (l.fn.i * length l.bcodes + l.j) l.fn.marks l.marks
