-- `rounds` meets its contract: the components before k had their rounds.
use Rattle.std.proofs.Common.{Bool, ℕ, ◌≤◌}
use Rattle.stricter_spec.specs.Steps.{CoreStep, SparedStep}
use Rattle.stricter_laws.specs.Parts.{Side}
use Rattle.stricter_cores.proofs.rounds.Given as goal

abbrev pub invariant-loop-k : goal.invariant-loop-k
invariant-loop-k l = (components : Bool → ℕ) → l.count ≤ components l.second
    → Side (CoreStep l.nb l.left l.right) (SparedStep l.nb l.left l.right) components l.second l.k l.fn.marks l.marks l.changed
