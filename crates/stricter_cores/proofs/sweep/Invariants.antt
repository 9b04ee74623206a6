-- `sweep` meets its contract: the rows before i are tried.
use Rattle.std.proofs.Common.{◌*◌}
use Rattle.stricter_spec.specs.Steps.{CoreStep, SparedStep}
use Rattle.stricter_spec.specs.Rounds.{Tried}
use Rattle.stricter_cores.proofs.sweep.Given as goal

abbrev pub invariant-loop-i : goal.invariant-loop-i
invariant-loop-i l = Tried (CoreStep l.nb l.left l.right) (SparedStep l.nb l.left l.right l.fn.ask.second l.fn.ask.k) 0 (l.i * l.nb) l.fn.marks l.marks l.changed
