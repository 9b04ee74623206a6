-- `sweep_out` meets its contract: each sweep but the last marks a pair.
use Rattle.std.proofs.Common.{◌*◌, ◌-◌, length}
use Rattle.sets.specs.Lists.{sum}
use Rattle.stricter_spec.specs.Steps.{CoreStep, SparedStep}
use Rattle.stricter_spec.specs.Rounds.{Marking}
use Rattle.stricter_cores.proofs.sweep_out.Given as goal

abbrev pub invariant-loop-ask : goal.invariant-loop-ask
invariant-loop-ask l = Marking (CoreStep l.nb l.left l.right) (SparedStep l.nb l.left l.right l.fn.ask.second l.fn.ask.k) l.fn.marks l.marks

abbrev pub decreases-loop-ask : goal.decreases-loop-ask
decreases-loop-ask l = 2 * length l.fn.marks - sum l.marks
