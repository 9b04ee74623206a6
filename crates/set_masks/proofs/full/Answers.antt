-- `set_masks::full` meets its contract.
use Rattle.set_masks.proofs.Sets.{full_is}
use Rattle.set_masks.proofs.full.Goals as goal

pub returns : goal.returns
returns c = full_is c.args.n c.requires
