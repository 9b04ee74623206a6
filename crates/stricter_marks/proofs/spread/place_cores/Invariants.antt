-- `place_cores` meets its contract: the rows before i are placed.
use Rattle.std.proofs.Common.{◌*◌, length}
use Rattle.stricter_laws.specs.Fill.{Filled}
use Rattle.stricter_marks.specs.Rows.{placed_at}
use Rattle.stricter_marks.proofs.spread.place_cores.Given as goal

abbrev pub invariant-loop-i : goal.invariant-loop-i
invariant-loop-i l = Filled (placed_at l.acodes l.bcodes) 0 (l.i * length l.bcodes) l.fn.marks l.marks
