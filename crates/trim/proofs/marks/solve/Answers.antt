-- `solve` meets its contract: each round but the last takes a number out, and after the last all that is left is sound.
use Rattle.std.proofs.Common.{◌∙◌, refl}
use Rattle.graph_walks.proofs.Rounds.{kept-start, kept_low, kept_then, solved}
use Rattle.trim.proofs.marks.solve.Goals as goal

pub loop-init : goal.loop-init
loop-init c = (kept-start _ _, refl)

pub solve_round-requires : goal.solve_round-requires
solve_round-requires c = (rw c.loop.auto.codes c.requires.0, kept_low _ _ _ c.requires.1 c.loop.invariant.0)

pub loop-smaller : goal.loop-smaller
loop-smaller c = c.solve_round.ensures.0.less c.loop-test.true

pub loop-preserved : goal.loop-preserved
loop-preserved c = (kept_then _ _ _ _ _ c.loop.invariant.0 c.solve_round.ensures.0, c.solve_round.ensures.1 ∙ c.loop.invariant.1)

pub returns : goal.returns
returns c = (solved _ _ _ _ c.loop.invariant.0 (rw c.loop-test.false at c.solve_round.ensures.0), c.solve_round.ensures.1 ∙ c.loop.invariant.1)
