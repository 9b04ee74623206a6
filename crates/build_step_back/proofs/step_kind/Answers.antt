-- `build_step_back::step_kind` meets its contract: a component of the kind is one more, and one of the other kind changes nothing.
use Rattle.std.proofs.Common.{◌∙◌, arith, rules}
use borrow.Author.Tests.{not-true, not-false}
use Rattle.build_step_back.proofs.Sum.{part-kind, start, next, skip}
use Rattle.build_step_back.proofs.step_kind.Goals as goal

pub loop-c-init : goal.loop-c-init
loop-c-init c = start

pub loop-c-preserved-then-part-accepting : goal.loop-c-preserved-then-part-accepting
loop-c-preserved-then-part-accepting c = let a = c.args in
    skip c.loop-c.invariant (part-kind a.parts.now a.accepting a.kind c.loop-c.c ∙ not-true _ c.if-part-accepting.true)

pub loop-c-preserved : goal.loop-c-preserved
loop-c-preserved c = let a = c.args in let l = c.loop-c in let s = c.step_component-step in
    let kind = part-kind a.parts.now a.accepting a.kind l.c ∙ not-false _ c.if-part-accepting.false in
    rw c.wide-ranks.ensures (next l.invariant s.result.ranks s.result.levels kind (omega (arith, c.requires.2, l.invariant.long)) (search rules) s.ensures)
