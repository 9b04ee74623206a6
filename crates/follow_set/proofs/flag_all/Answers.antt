-- `flag_all` meets its contract: the bytes before x are flags and counted, and the one at x is not 0.
use Rattle.std.proofs.Common.{◌+◌, ◌<◌, get_or, refl, sym, ap, arith}
use Rattle.std.proofs.lemmas.Bool.{lt-ltb}
use Rattle.sets.specs.Tests.{one}
use Rattle.live_set.specs.Sweeps.{flag_of_lem}
use Rattle.follow_set.proofs.Counts.{counting-start, counting-over, counting-next, counting-end}
use Rattle.follow_set.proofs.flag_all.Goals as goal

pub loop-x-init : goal.loop-x-init
loop-x-init c = let found = c.next_set-x.ensures in (found.within, counting-start flag_of_lem refl c.args.set.now _ found.before, found.set)

pub loop-x-preserved : goal.loop-x-preserved
loop-x-preserved c =
    let l = c.loop-x in let found = c.next_set-x-in-loop-x.ensures in let some : 0 < get_or l.set l.x 0 = l.invariant.2 (omega arith) in
    let next = counting-next flag_of_lem refl c.args.set.now l.set l.members l.x 1 (omega arith) (ap one (sym (lt-ltb 0 _ some))) (omega arith) l.invariant.1 in
    (found.within, counting-over flag_of_lem refl c.args.set.now _ _ (l.x + 1) _ found.before next, found.set)

pub returns : goal.returns
returns c = counting-end flag_of_lem refl c.args.set.now c.loop-x.set c.loop-x.members c.loop-x.x (omega arith) c.loop-x.invariant.1
