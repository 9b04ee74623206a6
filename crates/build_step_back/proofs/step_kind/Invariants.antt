-- `build_step_back::step_kind` meets its contract: the components below c of the kind are stepped back.
use Rattle.build_step_back.specs.Step.{part_of, BackOf}
use Rattle.build_step_back.proofs.step_kind.Given as goal

abbrev pub invariant-loop-c : goal.invariant-loop-c
invariant-loop-c l = BackOf (part_of l.parts l.accepting l.kind) l.opens l.letter l.opened l.parts l.c l.low l.fn.levels l.ranks l.levels
