-- `start_length` meets its contract: the room is long enough.
use Rattle.std.proofs.Common.{arith}
use Rattle.hoa_text.proofs.Parts.{start-room}
use Rattle.hoa_text.proofs.lengths.start_length.Goals as goal

pub put_start-requires : goal.put_start-requires
put_start-requires c = omega (arith, start-room c.args.initial c.args.number c.requires)
