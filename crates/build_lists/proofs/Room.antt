-- The room of a slice.
use mathlib.Core.Path.{◌≡◌}
use Prim.Native.Nat.{ℕ, ◌≤◌, ◌<◌}
use native.Mathlib.Omega.{arith}
use lib.Dec.{ltb}
use borrow.Author.Tests.{ltb-true, ltb-false, lt-ltb, le-ltb}
use Rattle.sets.proofs.Bools.{bif}
use Rattle.build_lists.specs.Room.{room_of_lem}

-- a slice shorter than the cap has its length as room, another the cap
pub room-short : (cap len : ℕ) → len < cap → len ≡ room_of_lem cap len
unfolding room_of_lem
room-short cap len l = rw (lt-ltb len cap l)

pub room-capped : (cap len : ℕ) → cap ≤ len → cap ≡ room_of_lem cap len
unfolding room_of_lem
room-capped cap len l = rw (le-ltb len cap l)

pub room-len : (cap len : ℕ) → room_of_lem cap len ≤ len
room-len cap len = bif (ltb len cap)
    (λ t. let e = room-short cap len (ltb-true len cap t) in omega arith)
    (λ t. let h = ltb-false len cap t in let e = room-capped cap len h in omega arith)

-- the room r of a slice is no more than its length
pub room_fits : (cap len r : ℕ) → r ≡ room_of_lem cap len → r ≤ len
room_fits cap len r e = omega (arith, room-len cap len)

pub room-cap : (cap len : ℕ) → room_of_lem cap len ≤ cap
room-cap cap len = bif (ltb len cap)
    (λ t. let h = ltb-true len cap t in let e = room-short cap len h in omega arith)
    (λ t. let e = room-capped cap len (ltb-false len cap t) in omega arith)

-- nor than the cap
pub room_most : (cap len r : ℕ) → r ≡ room_of_lem cap len → r ≤ cap
room_most cap len r e = omega (arith, room-cap cap len)
