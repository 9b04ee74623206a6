-- `build_cores::gathered` meets its contract: place j is that before it and the states of rank j.
use Rattle.std.proofs.Common.{arith}
use Rattle.build_cores.proofs.Low.{gather, gather-start}
use Rattle.build_cores.proofs.gathered.Goals as goal

pub loop-j-init : goal.loop-j-init
loop-j-init c = gather-start c.args.at.now

pub loop-j-preserved : goal.loop-j-preserved
loop-j-preserved c = let l = c.loop-j in gather c.args.at.now l.low l.j (omega arith) (omega arith) l.invariant
