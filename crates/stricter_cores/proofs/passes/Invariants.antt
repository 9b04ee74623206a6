-- `passes` meets its contract: each pass but the last takes a pair out.
use Rattle.std.proofs.Common.{cond}
use Rattle.sets.specs.Lists.{sum}
use Rattle.stricter_spec.specs.Steps.{CoreStep, SparedStep}
use Rattle.stricter_spec.specs.Rounds.{Narrowed}
use Rattle.stricter_cores.proofs.passes.Given as goal

abbrev pub invariant-loop : goal.invariant-loop
invariant-loop l = Narrowed (CoreStep l.nb l.left l.right) (SparedStep l.nb l.left l.right) (λ s. cond s l.bcount l.acount) l.fn.marks l.marks

abbrev pub decreases-loop : goal.decreases-loop
decreases-loop l = sum l.marks
