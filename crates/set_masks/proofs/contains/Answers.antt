-- `set_masks::contains` meets its contract.
use Rattle.set_masks.proofs.Sets.{contains-is}
use Rattle.set_masks.proofs.contains.Goals as goal

pub returns : goal.returns
returns c = contains-is c.args.m c.args.q
