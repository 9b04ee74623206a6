-- `state_length` meets its contract: the room is long enough.
use Rattle.std.proofs.Common.{arith}
use Rattle.hoa_laws.proofs.Lengths.{state-short}
use Rattle.hoa_text.proofs.lengths.state_length.Goals as goal

pub put_state-requires : goal.put_state-requires
put_state-requires c = omega (arith, state-short c.args.number c.args.accepting c.requires)
