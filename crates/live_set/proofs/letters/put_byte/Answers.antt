-- `put_byte` meets its contract: a byte stored is a part of one byte put there.
use Rattle.live_set.proofs.Puts.{put-set}
use Rattle.live_set.proofs.letters.put_byte.Goals as goal

pub returns : goal.returns
returns c = put-set c.args.at c.args.v c.args.state.now c.requires
