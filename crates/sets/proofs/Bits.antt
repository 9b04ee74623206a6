-- The members of masks: of a conjunction, a disjunction, a difference, a complement, a power of two; masks by their members; how many there are.
use mathlib.Core.Path.{◌≡◌, refl, sym, ◌∙◌, ap, ap₂}
use mathlib.Core.Logic.{◌↔◌, by_cases}
use mathlib.Core.Bool.{Bool, true, false, ◌&&◌, ◌||◌, not, or_assoc}
use Prim.Native.Nat.{ℕ, zero, suc, ◌+◌, ◌-◌, ◌*◌, ◌/◌, ◌%◌, ◌^◌, ◌≤◌, ◌<◌, min, max}
use native.Mathlib.Omega.{arith}
use native.Mathlib.Decide.{dec_lt, ℕ_discrete}
use native.Mathlib.Nat.{zero-div, div-eq_of_lt, lt_of_lt_of_le, mod-lt, pow-suc, one-mul}
use native.Mathlib.Numerals.{one-add}
use lib.Dec.{eqb, ltb}
use lib.Bits.{bit_and, bit_or, bit_xor, differ, and_shr, or_shr, xor_shr, and_step, or_step, xor_step, and_le_l, and_le_r, or_add_and, or_lt}
use lib.Count.{ones, ones_cat, ones_in}
use lib.Pow.{pow_pos, pow_mono, pow-lt, shr_lt, shr-shr, shl-shr, shl_exact, split, ones_lt}
use lib.Arith.{lt-one}
use borrow.Author.Tests.{eqb-true, eqb-false, eq-eqb, ne_eqb, lt-ltb, le-ltb}
use Rattle.sets.specs.Tests.{Set, one, count}
use Rattle.sets.specs.Masks.{bit, mask, exclusive}
use Rattle.sets.proofs.Bools.{bif, clash, and_r}
use Rattle.sets.proofs.Tests.{count-ext}
use Rattle.sets.proofs.Digits.{digits-eq}
use Rattle.sets.proofs.Masks.{above, mask_lt, bit_mask}

-- ---- the digits of two masks together

-- a digit is 0 or 1
pub one-digit : (P : ℕ → Type 0) → P 0 → P 1 → (x : ℕ) → x < 2 → P x
one-digit P a b zero h = a
one-digit P a b (suc zero) h = b
one-digit P a b (suc (suc x)) h = absurd (omega arith)

two_digits : (P : ℕ → ℕ → Type 0) → P 0 0 → P 0 1 → P 1 0 → P 1 1 → (x y : ℕ) → x < 2 → y < 2 → P x y
two_digits P a b c d x y h k = one-digit (λ z. P z y) (one-digit (P 0) a b y k) (one-digit (P 1) c d y k) x h

two-and : (x y : ℕ) → x < 2 → y < 2 → eqb (min x y) 1 ≡ eqb x 1 && eqb y 1
two-and = two_digits (λ x y. eqb (min x y) 1 ≡ eqb x 1 && eqb y 1) refl refl refl refl

two-or : (x y : ℕ) → x < 2 → y < 2 → eqb (max x y) 1 ≡ eqb x 1 || eqb y 1
two-or = two_digits (λ x y. eqb (max x y) 1 ≡ eqb x 1 || eqb y 1) refl refl refl refl

two-xor : (x y : ℕ) → x < 2 → y < 2 → eqb (differ x y) 1 ≡ exclusive (eqb x 1) (eqb y 1)
two-xor = two_digits (λ x y. eqb (differ x y) 1 ≡ exclusive (eqb x 1) (eqb y 1)) refl refl refl refl

two-same : (x y : ℕ) → x < 2 → y < 2 → eqb x 1 ≡ eqb y 1 → x ≡ y
two-same x y a b e =
    bif (eqb x 1) (λ t. omega (arith, eqb-true x 1 t, eqb-true y 1 (sym e ∙ t)))
    (λ t. omega (arith, eqb-false x 1 t, eqb-false y 1 (sym e ∙ t)))

differ-lt : (x y : ℕ) → x < 2 → y < 2 → differ x y < 2
differ-lt = two_digits (λ x y. differ x y < 2) (omega arith) (omega arith) (omega arith) (omega arith)

pub digit_and : (a b q : ℕ) → bit_and a b / 2 ^ q % 2 ≡ min (a / 2 ^ q % 2) (b / 2 ^ q % 2)
digit_and a b q = rw and_shr (omega (arith, and_step (a / 2 ^ q) (b / 2 ^ q)))

pub digit_or : (a b q : ℕ) → bit_or a b / 2 ^ q % 2 ≡ max (a / 2 ^ q % 2) (b / 2 ^ q % 2)
digit_or a b q = rw or_shr (omega (arith, or_step (a / 2 ^ q) (b / 2 ^ q)))

pub digit-xor : (a b q : ℕ) → bit_xor a b / 2 ^ q % 2 ≡ differ (a / 2 ^ q % 2) (b / 2 ^ q % 2)
digit-xor a b q = rw xor_shr (omega (arith, xor_step (a / 2 ^ q) (b / 2 ^ q), differ-lt (a / 2 ^ q % 2) (b / 2 ^ q % 2) (omega arith) (omega arith)))

pub bit-and : (a b q : ℕ) → bit (bit_and a b) q ≡ bit a q && bit b q
unfolding bit
bit-and a b q = ap (λ (x : ℕ). eqb x 1) (digit_and a b q) ∙ two-and (a / 2 ^ q % 2) (b / 2 ^ q % 2) (omega arith) (omega arith)

pub bit-or : (a b q : ℕ) → bit (bit_or a b) q ≡ bit a q || bit b q
unfolding bit
bit-or a b q = ap (λ (x : ℕ). eqb x 1) (digit_or a b q) ∙ two-or (a / 2 ^ q % 2) (b / 2 ^ q % 2) (omega arith) (omega arith)

pub bit-xor : (a b q : ℕ) → bit (bit_xor a b) q ≡ exclusive (bit a q) (bit b q)
unfolding bit
bit-xor a b q = ap (λ (x : ℕ). eqb x 1) (digit-xor a b q) ∙ two-xor (a / 2 ^ q % 2) (b / 2 ^ q % 2) (omega arith) (omega arith)

-- ---- single members

-- the empty mask
pub bit-none : (q : ℕ) → bit 0 q ≡ false
unfolding bit
bit-none q = let z = zero-div (2 ^ q) in let e : 0 / 2 ^ q % 2 ≡ 0 = omega arith in ap (λ (x : ℕ). eqb x 1) e

-- a mask of k digits has no member from k on
pub bit_high : (k m q : ℕ) → m < 2 ^ k → k ≤ q → bit m q ≡ false
unfolding bit
bit_high k m q h l = ap (λ (x : ℕ). eqb (x % 2) 1) (div-eq_of_lt (lt_of_lt_of_le h (pow_mono l)))

-- so each of its members is below k
pub bit_below : (k m q : ℕ) → m < 2 ^ k → bit m q ≡ true → q < k
bit_below k m q h e = by_cases (dec_lt q k) (λ l. l) (λ l. clash e (bit_high k m q h (omega arith)))

pub bit-zero : (m : ℕ) → bit m 0 ≡ eqb (m % 2) 1
unfolding bit
bit-zero m = let e : m / 2 ^ 0 % 2 ≡ m % 2 = omega arith in ap (λ (x : ℕ). eqb x 1) e

pub bit-half : (m q : ℕ) → bit (m / 2) q ≡ bit m (suc q)
unfolding bit
bit-half m q = ap (λ (x : ℕ). eqb (x % 2) 1) (shr-shr m 1 q) ∙ ap (λ (x : ℕ). eqb (m / 2 ^ x % 2) 1) (one-add q)

-- the low k digits keep the members below k
pub bit-mod : (m k q : ℕ) → q < k → bit (m % 2 ^ k) q ≡ bit m q
unfolding bit
bit-mod m k q l = sym (ap (λ (x : ℕ). eqb x 1) (above (m / 2 ^ k) (m % 2 ^ k) k q l)) ∙ ap (λ (x : ℕ). eqb (x / 2 ^ q % 2) 1) (split m k)

-- the mask of q alone
pub bit-shl-one : (q p : ℕ) → bit (2 ^ q) p ≡ eqb q p
unfolding bit
bit-shl-one q p =
    by_cases (ℕ_discrete q p)
    (λ e. ap (λ (x : ℕ). eqb (2 ^ q / 2 ^ x % 2) 1) (sym e) ∙ ap (λ (x : ℕ). eqb (x / 2 ^ q % 2) 1) (sym (one-mul (2 ^ q))) ∙ ap (λ (x : ℕ). eqb (x % 2) 1) (shl-shr 1 q) ∙ sym (eq-eqb q p e))
    (λ n. by_cases (dec_lt p q)
    (λ l. let e : 1 * 2 ^ q + 0 ≡ 2 ^ q = omega arith in
    ap (λ (x : ℕ). eqb (x / 2 ^ p % 2) 1) (sym e) ∙ ap (λ (x : ℕ). eqb x 1) (above 1 0 q p l) ∙ bit-none p ∙ sym (ne_eqb q p n))
    (λ l. bit_high (suc q) (2 ^ q) p (pow-lt {i = q} {j = suc q} (omega arith)) (omega arith) ∙ sym (ne_eqb q p n)))

-- the machine's 1 << q in w bits
pub shl_one : (w q : ℕ) → q < w → 1 * 2 ^ q % 2 ^ w ≡ 2 ^ q
shl_one w q h = shl_exact {a = 1} 1 q w (omega arith) (omega arith) ∙ one-mul (2 ^ q)

-- ---- a mask is given by its members

pub bit-ext : (k a b : ℕ) → a < 2 ^ k → b < 2 ^ k → ((q : ℕ) → q < k → bit a q ≡ bit b q) → a ≡ b
unfolding bit
bit-ext k a b ha hb h = digits-eq 2 (omega arith) k a b ha hb (λ j l. two-same (a / 2 ^ j % 2) (b / 2 ^ j % 2) (omega arith) (omega arith) (h j l))

pub mask-bit : (n m : ℕ) → m < 2 ^ n → mask n (bit m) ≡ m
mask-bit n m h = bit-ext n (mask n (bit m)) m (mask_lt n (bit m)) h (λ q l. bit_mask n (bit m) q l)

-- the mask that a test gives is the only one with these members
pub mask-unique : (n m : ℕ) (f : Set) → m < 2 ^ n → ((q : ℕ) → q < n → bit m q ≡ f q) → m ≡ mask n f
mask-unique n m f h e = bit-ext n m (mask n f) h (mask_lt n f) (λ q l. e q l ∙ sym (bit_mask n f q l))

-- the mask of a test, by the bits of a wider number
pub mask-of : (k n m : ℕ) (f : Set) → n ≤ k → m < 2 ^ k → ((q : ℕ) → q < n → bit m q ≡ f q) → ((q : ℕ) → n ≤ q → q < k → bit m q ≡ false) → m ≡ mask n f
mask-of k n m f l h same none =
    bit-ext k m (mask n f) h (lt_of_lt_of_le (mask_lt n f) (pow_mono l))
    (λ q lq. by_cases (dec_lt q n) (λ y. same q y ∙ sym (bit_mask n f q y))
    (λ y. none q (omega arith) lq ∙ sym (bit_high n (mask n f) q (mask_lt n f) (omega arith))))

-- the union of two sets
pub mask-or : (n : ℕ) (f g : Set) → bit_or (mask n f) (mask n g) ≡ mask n (λ q. f q || g q)
mask-or n f g =
    mask-unique n (bit_or (mask n f) (mask n g)) (λ q. f q || g q) (or_lt n (mask n f) (mask n g) (mask_lt n f) (mask_lt n g))
    (λ q l. bit-or (mask n f) (mask n g) q ∙ ap₂ (λ (x y : Bool). x || y) (bit_mask n f q l) (bit_mask n g q l))

-- the members of the mask of a test, at any number
pub bit-mask-all : (n : ℕ) (f : Set) (q : ℕ) → bit (mask n f) q ≡ ltb q n && f q
bit-mask-all n f q =
    by_cases (dec_lt q n) (λ l. bit_mask n f q l ∙ sym (ap (λ (b : Bool). b && f q) (lt-ltb q n l)))
    (λ l. bit_high n (mask n f) q (mask_lt n f) (omega arith) ∙ sym (ap (λ (b : Bool). b && f q) (le-ltb q n (omega arith))))

-- ---- the complement among n numbers

pub mask-not : (n : ℕ) (f : Set) → mask n f + mask n (λ q. not (f q)) + 1 ≡ 2 ^ n
unfolding mask
mask-not zero f = refl
mask-not (suc n) f =
    let ih = mask-not n f in let p = pow-suc 2 n in
    bif (f n)
    (λ t. let x : one (f n) * 2 ^ n ≡ 1 * 2 ^ n = rw t in let y : one (not (f n)) * 2 ^ n ≡ 0 * 2 ^ n = rw t in omega arith)
    (λ t. let x : one (f n) * 2 ^ n ≡ 0 * 2 ^ n = rw t in let y : one (not (f n)) * 2 ^ n ≡ 1 * 2 ^ n = rw t in omega arith)

pub not-mask : (n m : ℕ) → m < 2 ^ n → 2 ^ n - 1 - m ≡ mask n (λ q. not (bit m q))
not-mask n m h = let a = mask-not n (bit m) in let b = mask-bit n m h in omega arith

-- the numbers below n that are not in m
pub bit_not : (n m q : ℕ) → m < 2 ^ n → q < n → bit (2 ^ n - 1 - m) q ≡ not (bit m q)
bit_not n m q h l = ap (λ (x : ℕ). bit x q) (not-mask n m h) ∙ bit_mask n (λ p. not (bit m p)) q l

-- all numbers below n
pub bit-full : (n q : ℕ) → bit (2 ^ n - 1) q ≡ ltb q n
bit-full n q =
    by_cases (dec_lt q n)
    (λ l. let z : 2 ^ n - 1 ≡ 2 ^ n - 1 - 0 = omega arith in
    ap (λ (x : ℕ). bit x q) (z ∙ not-mask n 0 (pow_pos n)) ∙ bit_mask n (λ p. not (bit 0 p)) q l ∙ ap not (bit-none q) ∙ sym (lt-ltb q n l))
    (λ l. bit_high n (2 ^ n - 1) q (ones_lt n) (omega arith) ∙ sym (le-ltb q n (omega arith)))

-- ---- subsets

-- a is a part of b exactly if the conjunction takes nothing from a
pub subset-and : (k a b : ℕ) → a < 2 ^ k → ((q : ℕ) → q < k → bit a q ≡ true → bit b q ≡ true) ↔ (bit_and a b ≡ a)
subset-and k a b h = (
  λ s. bit-ext k (bit_and a b) a (omega (arith, and_le_l a b)) h (λ q l. bit-and a b q ∙ bif (bit a q) (λ t. rw t (s q l t)) (λ t. rw t)),
  λ e q l t. and_r (bit a q) (bit b q) (sym (bit-and a b q) ∙ ap (λ (x : ℕ). bit x q) e ∙ t),
)

-- a part of a mask is at most the mask
pub subset-le : (k a b : ℕ) → a < 2 ^ k → ((q : ℕ) → q < k → bit a q ≡ true → bit b q ≡ true) → a ≤ b
subset-le k a b h s = omega (arith, (subset-and k a b h).0 s, and_le_r a b)

-- the disjunction is at least each part
pub or-ge : (a b : ℕ) → a ≤ bit_or a b
or-ge a b = omega (arith, or_add_and a b, and_le_r a b)

lt-pow : (n : ℕ) → n < 2 ^ n
lt-pow zero = omega arith
lt-pow (suc n) = rw pow-suc (omega (arith, lt-pow n))

-- masks with the same bits at all numbers
pub bit-ext-all : (a b : ℕ) → ((q : ℕ) → bit a q ≡ bit b q) → a ≡ b
bit-ext-all a b h =
    let k : ℕ = a + b in
    bit-ext k a b (lt_of_lt_of_le (lt-pow a) (pow_mono {i = a} {j = k} (omega arith))) (lt_of_lt_of_le (lt-pow b) (pow_mono {i = b} {j = k} (omega arith))) (λ q l. h q)

or-bits : (a b c q : ℕ) → bit (bit_or (bit_or a b) c) q ≡ bit (bit_or a (bit_or b c)) q
or-bits a b c q =
    bit-or (bit_or a b) c q ∙ ap (λ (x : Bool). x || bit c q) (bit-or a b q) ∙ or_assoc (bit a q) (bit b q) (bit c q)
    ∙ sym (bit-or a (bit_or b c) q ∙ ap (λ (x : Bool). bit a q || x) (bit-or b c q))

pub bit-or-assoc : (a b c : ℕ) → bit_or (bit_or a b) c ≡ bit_or a (bit_or b c)
bit-or-assoc a b c = bit-ext-all (bit_or (bit_or a b) c) (bit_or a (bit_or b c)) (or-bits a b c)

-- ---- how many members

one-count : (x : ℕ) → x < 2 → ones x ≡ one (eqb (x % 2) 1)
unfolding ones ones_in
one-count = one-digit (λ x. ones x ≡ one (eqb (x % 2) 1)) refl refl

-- the digits set in a mask of n digits are its members
pub ones-count : (n m : ℕ) → m < 2 ^ n → ones m ≡ count n (bit m)
unfolding count bit ones ones_in
ones-count zero m h = ap ones (lt-one h)
ones-count (suc n) m h =
    let r : m % 2 ^ n < 2 ^ n = mod-lt m (pow_pos n) in
    let d : m / 2 ^ n < 2 = shr_lt {n = m} 1 n (rw one-add h) in
    ap ones (sym (split m n))
    ∙ ones_cat n (m / 2 ^ n) (m % 2 ^ n) r
    ∙ omega (arith, one-count (m / 2 ^ n) d, ones-count n (m % 2 ^ n) r, count-ext n (bit (m % 2 ^ n)) (bit m) (λ q l. bit-mod m n q l))
