-- A mask spread over nibbles.
use mathlib.Core.Path.{◌≡◌, refl}
use mathlib.Core.Bool.{true}
use Prim.Native.Nat.{ℕ, ◌*◌, ◌%◌, ◌<◌}
use lib.Dec.{eqb}
use lib.Bits.{bit_and, bit_or}
use borrow.Author.Tests.{eqb-true}
use Rattle.sets.specs.Tests.{one, every}
use Rattle.sets.specs.Masks.{bit}
use Rattle.sets.specs.Digits.{num}
use Rattle.sets.proofs.Tests.{every-at}

-- what `spread` computes
abbrev pub spread_code : ℕ → ℕ
spread_code m =
    let b = bit_and (bit_or m (m * 4096 % 4294967296)) 983055 in
    let c = bit_and (bit_or b (b * 64 % 4294967296)) 50529027 in
    bit_and (bit_or c (c * 8 % 4294967296)) 286331153

all-spread : every 256 (λ m. eqb (spread_code m) (num 16 8 (λ q. one (bit m q)))) ≡ true
unfolding every num bit
all-spread = refl

pub spread-right : (m : ℕ) → m < 256 → spread_code m ≡ num 16 8 (λ q. one (bit m q))
spread-right m h = eqb-true _ _ (every-at 256 (λ m. eqb (spread_code m) (num 16 8 (λ q. one (bit m q)))) all-spread m h)
