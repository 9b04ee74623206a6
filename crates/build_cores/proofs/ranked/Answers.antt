-- `build_cores::ranked` meets its contract: state q goes to the place of its rank.
use Rattle.std.proofs.Common.{◌∙◌, ◌*◌, ◌/◌, ◌^◌, arith}
use lib.Bits.{and_mask}
use borrow.Author.Tests.{lt-ltb}
use Rattle.sets.proofs.Masks.{mask-ext}
use Rattle.build_cores.specs.Vectors.{rank_at}
use Rattle.build_cores.proofs.Gaps.{rank-low}
use Rattle.build_cores.proofs.Low.{put, put-start}
use Rattle.build_cores.proofs.ranked.Goals as goal

pub loop-q-init : goal.loop-q-init
loop-q-init c = put-start (rank_at c.args.ranks)

pub loop-q-preserved : goal.loop-q-preserved
unfolding rank_at
loop-q-preserved c = let x = c.args.ranks in let l = c.loop-q in
    rw (and_mask (x / 2 ^ (4 * l.q)) 4) (put (rank_at x) l.at l.q (omega arith) (rank-low x l.q) l.invariant)

pub returns : goal.returns
returns c = λ j k. c.loop-q.invariant.is j k ∙ mask-ext 8 _ _ (λ p h. rw (lt-ltb p c.loop-q.q (omega arith)))
