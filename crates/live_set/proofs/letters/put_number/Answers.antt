-- `put_number` meets its contract: two bytes stored are a part of two bytes put there.
use Rattle.std.proofs.Common.{◌/◌, ◌%◌}
use Rattle.live_spec.specs.State.{two_bytes}
use Rattle.live_set.proofs.Puts.{put_two}
use Rattle.live_set.proofs.letters.put_number.Goals as goal

pub returns : goal.returns
unfolding two_bytes
returns c = put_two c.args.at (c.args.n % 256) (c.args.n / 256) c.args.state.now c.requires.1
