-- `build_step_back::step_component` meets its contract: the states of level below j have come in.
use Rattle.std.proofs.Common.{◌≤◌}
use Rattle.build_step_back.specs.Step.{Rising}
use Rattle.build_step_back.proofs.Component.{At}
use Rattle.build_step_back.proofs.step_component.Given as goal

abbrev pub invariant-loop-states : goal.invariant-loop-states
invariant-loop-states l = (r : Rising l.opens l.letter l.opened l.part l.low) × (l.states-index ≤ 9) × At r l.prev l.ones l.ranks l.levels l.states-index
