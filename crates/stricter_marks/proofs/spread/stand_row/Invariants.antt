-- `stand_row` meets its contract: the pairs before j are told.
use Rattle.std.proofs.Common.{◌+◌, ◌-◌}
use Rattle.sets.specs.Tests.{one}
use Rattle.stricter_spec.specs.Steps.{stands_in}
use Rattle.stricter_laws.specs.Fill.{Filled}
use Rattle.stricter_marks.proofs.spread.stand_row.Given as goal

abbrev pub invariant-loop-j : goal.invariant-loop-j
invariant-loop-j l = Filled (λ x. one (stands_in l.bcodes (x - l.base))) l.base (l.base + l.j) l.fn.marks l.marks
