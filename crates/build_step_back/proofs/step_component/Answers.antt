-- `build_step_back::step_component` meets its contract: each turn brings the states of the next level in, and the states of level 8 are the last.
use Rattle.std.proofs.Common.{arith}
use Rattle.build_step_back.specs.Step.{goal, upto}
use Rattle.build_step_back.proofs.Component.{begin, nothing, stepped, deep_in, levels-fit, on_same, ranks-fit, on-new}
use Rattle.build_step_back.proofs.step_component.Goals as goal
use Rattle.build_step_back.proofs.step_component.Goals.{else-loop-states-test, then-loop-states-test+then-prev-goal}

pub returns-then-goal-eq0 : goal.returns-then-goal-eq0
unfolding goal
returns-then-goal-eq0 c = nothing c.requires c.if-goal-eq0.true

pub loop-states-init : goal.loop-states-init
unfolding goal
loop-states-init c = (c.requires, omega arith, begin c.requires (omega arith) c.if-goal-eq0.false)

pub overflow_add-levels : goal.overflow_add-levels
unfolding goal
overflow_add-levels c = let i = c.loop-states.invariant in omega (arith, levels-fit i.0 (omega arith) i.2 c.if-prev-goal.false)

pub loop-states-preserved-then-x-prev : goal.loop-states-preserved-then-x-prev
unfolding goal upto
loop-states-preserved-then-x-prev c = let i = c.loop-states.invariant in
    (i.0, omega (arith, deep_in i.0 (omega arith) i.2 c.if-prev-goal.false), on_same i.0 (omega arith) i.2 c.if-prev-goal.false c.if-x-prev.true)

pub overflow_add-ranks : goal.overflow_add-ranks
unfolding goal upto
overflow_add-ranks c = let i = c.loop-states.invariant in
    rw c.nibbles_of-ranks.ensures (omega (arith, ranks-fit i.0 (omega arith) i.2 c.if-prev-goal.false c.if-x-prev.false))

pub loop-states-preserved : goal.loop-states-preserved
unfolding goal upto
loop-states-preserved c = let i = c.loop-states.invariant in
    (i.0, omega (arith, deep_in i.0 (omega arith) i.2 c.if-prev-goal.false), rw c.nibbles_of-ranks.ensures (on-new i.0 (omega arith) i.2 c.if-prev-goal.false c.if-x-prev.false))

pub overflow_sub-levels : goal.overflow_sub-levels
unfolding goal
overflow_sub-levels c = let i = c.loop-states.invariant in elim c.loop-states-test.branch [
  | else-loop-states-test w ↦ omega arith
  | then-loop-states-test+then-prev-goal w ↦ (stepped i.0 i.2 w.if-prev-goal.true).0
]

pub returns : goal.returns
unfolding goal
returns c = let i = c.loop-states.invariant in elim c.loop-states-test.branch [
  | else-loop-states-test w ↦ absurd (omega arith)
  | then-loop-states-test+then-prev-goal w ↦ (stepped i.0 i.2 w.if-prev-goal.true).1
]
