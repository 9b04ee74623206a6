-- `settle` meets its contract: the rows before i are settled.
use Rattle.std.proofs.Common.{◌*◌}
use Rattle.stricter_laws.specs.Parts.{Settled}
use Rattle.stricter_cores.proofs.settle.Given as goal

abbrev pub invariant-loop-i : goal.invariant-loop-i
invariant-loop-i l = Settled 0 (l.i * l.nb) l.fn.marks l.marks l.changed
