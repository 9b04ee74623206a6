-- The members of the mask of a test.
use mathlib.Core.Path.{◌≡◌, refl, ◌∙◌, ap}
use mathlib.Core.Logic.{by_cases}
use mathlib.Core.Bool.{Bool, true, false}
use Prim.Native.Nat.{ℕ, zero, suc, ◌+◌, ◌*◌, ◌/◌, ◌%◌, ◌^◌, ◌≤◌, ◌<◌}
use native.Mathlib.Omega.{arith}
use native.Mathlib.Decide.{dec_lt}
use native.Mathlib.Nat.{mod-eq_of_lt, pow-suc}
use lib.Dec.{eqb}
use lib.Arith.{digits_div}
use lib.Pow.{shl_exact}
use lib.Bits.{bit_or, or_shifted_r}
use native.Mathlib.Numerals.{add-one}
use Rattle.sets.specs.Tests.{Set, one}
use Rattle.sets.specs.Masks.{bit, mask}
use Rattle.sets.proofs.Bools.{bif}
use Rattle.sets.proofs.Digits.{digit-above, stays-from}

one-lt : (b : Bool) → one b < 2
one-lt true = omega arith
one-lt false = omega arith

one-eqb : (b : Bool) → eqb (one b) 1 ≡ b
one-eqb true = refl
one-eqb false = refl

pub mask_lt : (n : ℕ) (f : Set) → mask n f < 2 ^ n
unfolding mask
mask_lt zero f = omega arith
mask_lt (suc n) f = let ih = mask_lt n f in let h = pow-suc 2 n in bif (f n) (λ t. let x : one (f n) ≡ 1 = rw t in rw (x, h) (omega arith))
    (λ t. let x : one (f n) ≡ 0 = rw t in rw (x, h) (omega arith))

-- a digit above does not show below
pub above : (a m n q : ℕ) → q < n → (a * 2 ^ n + m) / 2 ^ q % 2 ≡ m / 2 ^ q % 2
above = digit-above 2 (omega arith)

pub bit_mask : (n : ℕ) (f : Set) (q : ℕ) → q < n → bit (mask n f) q ≡ f q
unfolding bit mask
bit_mask zero f q l = absurd (omega arith)
bit_mask (suc n) f q l =
    by_cases (dec_lt q n) (λ h. ap (λ (x : ℕ). eqb x 1) (above (one (f n)) (mask n f) n q h) ∙ bit_mask n f q h)
    (λ h. let e : q ≡ n = omega arith in rw e (ap (λ (x : ℕ). eqb (x % 2) 1) (digits_div (one (f n)) (mask_lt n f)) ∙ ap (λ (x : ℕ). eqb x 1) (mod-eq_of_lt (one-lt (f n))) ∙ one-eqb (f n)))

-- the masks of tests that agree
pub mask-ext : (n : ℕ) (f g : Set) → ((q : ℕ) → q < n → f q ≡ g q) → mask n f ≡ mask n g
unfolding mask
mask-ext zero f g h = refl
mask-ext (suc n) f g h = rw (h n (omega arith), mask-ext n f g (λ q l. h q (omega arith)))

-- numbers from n on that are no members
pub mask-trim : (m n : ℕ) (f : Set) → n ≤ m → ((j : ℕ) → n ≤ j → j < m → f j ≡ false) → mask m f ≡ mask n f
unfolding mask
mask-trim m n f l h = stays-from (λ k. mask k f) n m l (λ p x y. let z : one (f p) * 2 ^ p ≡ 0 * 2 ^ p = rw (h p x y) in omega arith)

-- the empty set
pub mask-none : (n : ℕ) (f : Set) → ((q : ℕ) → q < n → f q ≡ false) → mask n f ≡ 0
unfolding mask
mask-none n f h = mask-trim n 0 f (omega arith) (λ j a b. h j b)

-- one more state of the mask of a test
pub put-bit : (p d : ℕ) (f : Set) → p < 8 → d ≡ one (f p) → bit_or (mask p f) (d * 2 ^ p % 2 ^ 8) ≡ mask (p + 1) f
unfolding mask
put-bit p d f l e =
    let small : d < 2 ^ 1 = bif (f p) (λ t. let x : one (f p) ≡ 1 = rw t in omega arith) (λ t. let x : one (f p) ≡ 0 = rw t in omega arith) in
    rw (shl_exact {a = d} 1 p 8 small (omega arith), or_shifted_r d p (mask p f) (mask_lt p f), add-one p, e)
