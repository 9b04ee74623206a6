-- Ones in nibbles, and a union of masks that fits.
use mathlib.Core.Path.{◌≡◌, refl}
use mathlib.Core.Bool.{Bool, true, false}
use Prim.Native.Nat.{ℕ, suc, ◌*◌, ◌%◌, ◌^◌, ◌≤◌, ◌<◌}
use native.Mathlib.Omega.{arith}
use lib.Dec.{eqb, leb}
use lib.Bits.{bit_and, bit_or, bit_xor, or_lt, xor_lt, and_le_r}
use borrow.Author.Tests.{eqb-true}
use Rattle.sets.specs.Tests.{one, every}
use Rattle.sets.specs.Digits.{num}
use Rattle.sets.proofs.Tests.{every-at}

-- ones in the nibbles from m on
unfoldable pub ones-from : ℕ → ℕ
ones-from m = num 16 16 (λ k. one (leb m k))

pub ones-first : 1229782938247303440 ≡ ones-from 1
unfolding num ones-from
ones-first = refl

all-next : every 16 (λ m. eqb (ones-from m * 2 ^ 4 % 2 ^ 64) (ones-from (suc m))) ≡ true
unfolding every num ones-from
all-next = refl

-- a shift by a nibble drops the lowest
pub ones-next : (m : ℕ) → m < 16 → ones-from m * 2 ^ 4 % 2 ^ 64 ≡ ones-from (suc m)
ones-next m h = eqb-true _ _ (every-at 16 (λ m. eqb (ones-from m * 2 ^ 4 % 2 ^ 64) (ones-from (suc m))) all-next m h)

pub one-le : (b : Bool) → one b ≤ 1
one-le true = omega arith
one-le false = omega arith

pub arg-small : (o p v : ℕ) → o < 256 → p < 256 → bit_or (bit_xor o (bit_and o p)) (bit_and v p) < 256
arg-small o p v ho hp = or_lt 8 (bit_xor o (bit_and o p)) (bit_and v p) (xor_lt 8 o (bit_and o p) ho (omega (arith, and_le_r o p))) (omega (arith, and_le_r v p))
