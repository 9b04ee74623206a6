-- `room_of` meets its contract.
use Rattle.build_lists.proofs.Room.{room-short, room-capped}
use Rattle.build_lists.proofs.room_of.Statement.{statement}
use Rattle.build_lists.proofs.room_of.Tie as tie

returns : tie.Need-returns-then-len-cap
returns c = room-short c.before.args.cap c.before.args.len c.if-len-cap.true

returns-2 : tie.Need-returns
returns-2 c = room-capped c.before.args.cap c.before.args.len c.if-len-cap.false

pub room_of_spec : {M : Type 1} → statement M
room_of_spec = tie.close (tie.spec returns returns-2)
