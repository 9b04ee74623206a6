-- `sweep_out` meets its contract: each sweep but the last marks a number.
use Rattle.std.proofs.Common.{◌∙◌, true, false, refl, arith}
use Rattle.std.proofs.lemmas.Bool.{lt-ltb, le-ltb}
use Rattle.graph_walks.proofs.Marking.{marking-start}
use Rattle.graph_walks.proofs.Rounds.{marking-sum, stable}
use Rattle.theory_laws.proofs.Sweeping.{sweep-marking, sweep-round}
use Rattle.trim.proofs.marks.sweep_out.Goals as goal

pub loop-init : goal.loop-init
loop-init c = (marking-start _ _, refl)

pub loop-smaller : goal.loop-smaller
loop-smaller c =
    let e = c.sweep.ensures in let r = sweep-round _ _ _ e.0 true _ (lt-ltb 0 c.sweep.result c.loop-test.true) e.2 in
    omega (arith, r.grown refl, marking-sum _ _ _ c.requires.1 (sweep-marking _ _ _ e.0 _ c.loop.invariant.0))

pub loop-preserved : goal.loop-preserved
loop-preserved c = (sweep-marking _ _ _ c.sweep.ensures.0 _ c.loop.invariant.0, c.sweep.ensures.1 ∙ c.loop.invariant.1)

pub returns : goal.returns
returns c = let e = c.sweep.ensures in let v = c.loop.invariant in
    (stable _ _ _ _ v.0 (sweep-marking _ _ _ e.0 _ v.0) (sweep-round _ _ _ e.0 false _ (le-ltb 0 c.sweep.result (omega arith)) e.2), e.1 ∙ v.1)
