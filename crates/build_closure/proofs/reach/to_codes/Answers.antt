-- `build_closure::reach::to_codes` meets its contract: the next key becomes its code.
use Rattle.std.proofs.Common.{take, arith}
use Rattle.build_closure.proofs.Codes.{coded-next}
use Rattle.build_closure.proofs.reach.to_codes.Goals as goal

pub loop-key-preserved : goal.loop-key-preserved
loop-key-preserved c = let l = c.loop-key in coded-next l.key-index (take c.args.n c.args.keys.now) l.key-items (omega arith) l.invariant
