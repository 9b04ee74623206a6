-- `at_height` meets its contract: state q joins the mask if its entry has as many states as the height says.
use Rattle.std.proofs.Common.{arith, eqb, get_or, ◌∙◌, eq-eqb, ne_eqb, refl}
use Rattle.std.specs.Int.Count.{ones}
use Rattle.sets.specs.Tests.{Set}
use Rattle.sets.specs.Masks.{mask}
use Rattle.judge_place.proofs.Walks.{put-yes, put-no}
use Rattle.judge_place.proofs.at_height.Goals as goal
use Rattle.judge_place.proofs.at_height.Goals.{then-reach-q, else-reach-q}

pub loop-q-init : goal.loop-q-init
unfolding mask
loop-q-init c = refl

pub loop-q-preserved : goal.loop-q-preserved
loop-q-preserved c = let q = c.loop-q.q in let f : Set = λ t. eqb (ones (get_or c.args.reach.now t 0)) c.args.height in
    elim c.if-reach-q.branch [
      | then-reach-q w ↦ w.layer-is ∙ rw c.loop-q.invariant (put-yes q f (omega arith) (eq-eqb _ _ w.if-reach-q.true))
      | else-reach-q w ↦ w.layer-is ∙ c.loop-q.invariant ∙ put-no q f (ne_eqb _ _ w.if-reach-q.false)
    ]
