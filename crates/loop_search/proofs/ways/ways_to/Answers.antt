-- `ways_to` meets its contract: one step more.
use Rattle.std.proofs.Common.{◌≡◌, ap, ◌∙◌, arith}
use Rattle.sets.specs.Masks.{bit}
use Rattle.loop_spec.specs.Search.{ways}
use Rattle.loop_search.proofs.Steps.{ways-bounds, ways-none, ways_next}
use Rattle.loop_search.proofs.ways.ways_to.Goals as goal

pub loop-init : goal.loop-init
loop-init c = let a = c.args in ways-none a.n a.es.now a.others a.t c.requires.0 c.requires.1

pub step_back-w-requires : goal.step_back-w-requires
step_back-w-requires c = let a = c.args in ways-bounds a.n a.es.now a.others a.t c.loop.counter c.loop.w c.requires.0 c.requires.1 c.loop.invariant

pub loop-preserved : goal.loop-preserved
loop-preserved c = let a = c.args in ways_next a.n a.es.now a.others a.t c.loop.counter c.step_back-w.result c.loop.w c.loop.invariant c.step_back-w.ensures

pub returns : goal.returns
returns c = let a = c.args in let e : c.loop.counter ≡ a.k = omega arith in c.loop.invariant ∙ ap (ways a.n a.es.now (bit a.others) a.t) e
