-- `set_masks::difference` meets its contract.
use Rattle.std.proofs.Common.{arith}
use Rattle.set_masks.proofs.Sets.{difference-is}
use Rattle.set_masks.proofs.difference.Goals as goal

pub returns : goal.returns
returns c = difference-is c.args.a c.args.b (omega arith) (omega arith)
