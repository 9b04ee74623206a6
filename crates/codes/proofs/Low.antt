-- A byte put below a number.
use mathlib.Core.Path.{◌≡◌}
use Prim.Native.Nat.{ℕ, ◌+◌, ◌*◌, ◌%◌, ◌^◌, ◌<◌}
use native.Mathlib.Omega.{arith}
use native.Mathlib.Nat.{mod-eq_of_lt}
use lib.Bits.{bit_or, or_shifted}

-- a byte put below a number of at most seven bytes
pub put_byte : (r d : ℕ) → r < 2 ^ 56 → d < 256 → bit_or (r * 2 ^ 8 % 2 ^ 64) d ≡ r * 256 + d
put_byte r d h l = let f : r * 2 ^ 8 < 2 ^ 64 = omega arith in rw (mod-eq_of_lt f) (or_shifted r 8 d l)
