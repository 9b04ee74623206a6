-- The room of a slice.
use Rattle.std.specs.Prelude.{cond, ℕ, ltb}

-- the room of a slice: its length, but at most the cap
unfoldable pub room_of_lem : ℕ → ℕ → ℕ
room_of_lem cap len = cond (ltb len cap) len cap

-- 01: "Room counts at most 65,536 macrostates and 1,048,576 transitions."
abbrev pub codes_room : ℕ → ℕ
codes_room len = room_of_lem 65536 len

abbrev pub transitions_room : ℕ → ℕ
transitions_room len = room_of_lem 1048576 len
