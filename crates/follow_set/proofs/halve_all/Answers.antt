-- `halve_all` meets its contract: the bytes before x are halved and counted.
use Rattle.std.proofs.Common.{◌+◌, ◌/◌, ◌≤◌, get_or, refl, arith}
use Rattle.follow_set.proofs.Counts.{counting-start, counting-over, counting-next, counting-end}
use Rattle.follow_set.proofs.halve_all.Goals as goal

pub loop-x-init : goal.loop-x-init
loop-x-init c = (c.next_set-x.ensures.within, counting-start (λ v. v / 2) refl c.args.set.now _ c.next_set-x.ensures.before)

pub loop-x-preserved : goal.loop-x-preserved
loop-x-preserved c =
    let l = c.loop-x in let found = c.next_set-x-in-loop-x.ensures in let half : get_or l.set l.x 0 / 2 ≤ 1 = omega (arith, l.invariant.1.through.rest l.x (omega arith), c.requires l.x) in
    let next = counting-next (λ v. v / 2) refl c.args.set.now l.set l.members l.x _ (omega arith) refl half l.invariant.1 in
    (found.within, counting-over (λ v. v / 2) refl c.args.set.now _ _ (l.x + 1) _ found.before next)

pub returns : goal.returns
returns c = counting-end (λ v. v / 2) refl c.args.set.now c.loop-x.set c.loop-x.members c.loop-x.x (omega arith) c.loop-x.invariant.1
