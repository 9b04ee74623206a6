-- The bit operations give the sets that they stand for.
use mathlib.Core.Path.{◌≡◌, ◌∙◌, ap}
use mathlib.Core.Bool.{Bool, ◌&&◌, not}
use Prim.Native.Nat.{ℕ, ◌-◌, ◌*◌, ◌/◌, ◌%◌, ◌^◌, ◌≤◌, ◌<◌}
use native.Mathlib.Omega.{arith}
use native.Mathlib.Nat.{mod-eq_of_lt, one-mul, lt_of_le_of_lt}
use lib.Dec.{eqb, ltb}
use lib.Bits.{bit_and, and_le_l, and_mask}
use lib.Pow.{pow_mono, ones_lt}
use Rattle.sets.specs.Masks.{bit}
use Rattle.sets.proofs.Bits.{bit-and, bit_not, bit-full, mask-unique}
use Rattle.set_masks.specs.Sets.{difference_of, full_of}

-- a digit, read by shift and mask
pub contains-is : (m q : ℕ) → eqb (bit_and (m / 2 ^ q) 1) 1 ≡ bit m q
unfolding bit
contains-is m q = ap (λ (x : ℕ). eqb x 1) (and_mask (m / 2 ^ q) 1)

pub difference-is : (a b : ℕ) → a < 256 → b < 256 → bit_and a (255 - b) ≡ difference_of a b
difference-is a b ha hb =
    mask-unique 8 (bit_and a (255 - b)) (λ q. bit a q && not (bit b q)) (lt_of_le_of_lt (and_le_l a (255 - b)) ha)
    (λ q l. bit-and a (255 - b) q ∙ ap (λ (x : Bool). bit a q && x) (bit_not 8 b q hb l))

-- ---- the states below n

pub pow-fits : (n : ℕ) → n ≤ 8 → 1 * 2 ^ n % 4294967296 ≡ 2 ^ n
pow-fits n h = let s : 2 ^ n ≤ 256 = pow_mono {i = n} {j = 8} h in ap (λ (x : ℕ). x % 4294967296) (one-mul (2 ^ n)) ∙ mod-eq_of_lt (omega arith)

pub full-number : (n : ℕ) → n ≤ 8 → 2 ^ n - 1 ≡ full_of n
full-number n h =
    let s : 2 ^ n ≤ 256 = pow_mono {i = n} {j = 8} h in
    mask-unique 8 (2 ^ n - 1) (λ q. ltb q n) (omega (arith, ones_lt n)) (λ q l. bit-full n q)

pub full_is : (n : ℕ) → n ≤ 8 → 1 * 2 ^ n % 4294967296 - 1 ≡ full_of n
full_is n h = ap (λ (x : ℕ). x - 1) (pow-fits n h) ∙ full-number n h
