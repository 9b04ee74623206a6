-- `thin` meets its contract: the rows before i are thinned.
use Rattle.stricter_spec.specs.Steps.{CoreStep}
use Rattle.stricter_laws.specs.Parts.{Thinned}
use Rattle.stricter_cores.proofs.thin.Given as goal

abbrev pub invariant-loop-i : goal.invariant-loop-i
invariant-loop-i l = Thinned (CoreStep l.nb l.left l.right) l.fn.marks l.marks
