-- `compare_tables` meets its contract: row 29, then the search.
use Rattle.std.proofs.Common.{refl}
use Rattle.stricter.proofs.Rooms.{by_row, refused-zero}
use Rattle.stricter.proofs.Searching.{pair-short, pair-room}
use Rattle.stricter.proofs.compare_tables.Goals as goal

pub returns-then-lacks_room : goal.returns-then-lacks_room
returns-then-lacks_room c =
    let p = c.requires in let z = c.zero_rooms.ensures in let v = c.zero_rooms-then-lacks_room.ensures in
    refused-zero (pair-short p.0 p.1 _ c.lacks_room.ensures c.if-lacks_room.true) refl z.codes_after z.transitions_after v.codes_after v.transitions_after refl refl

pub returns : goal.returns
returns c = by_row (pair-room c.requires.0 c.requires.1 _ c.lacks_room.ensures c.if-lacks_room.false) c.search_tables.ensures
