-- The members of a mask as a list, ascending; the walk from the least member up.
use mathlib.Core.Path.{◌≡◌, refl, sym, ◌∙◌, ap}
use mathlib.Core.Logic.{⊎_elim}
use mathlib.Core.Bool.{Bool, true, false, ◌&&◌, ◌||◌, not, and-true}
use mathlib.Core.List.Memᴰ
use mathlib.Core.List.{List, [], ◌∷◌, Memᴰ}
use Prim.Native.Nat.{ℕ, zero, suc, ◌+◌, ◌-◌, ◌*◌, ◌/◌, ◌%◌, ◌^◌, ◌≤◌, ◌<◌}
use native.Mathlib.Omega.{arith}
use native.Mathlib.Nat.{add-zero, zero-add}
use native.Mathlib.Numerals.{add-one}
use lib.Dec.{eqb, eqb-suc-suc, eqb-suc-zero}
use lib.ListN.{length}
use lib.Bits.{bit_and, and_step, and_self}
use lib.Count.{ones, ones_in, ones_step, count_trailing_zeros, under}
use lib.Pow.{shr_lt}
use lib.Arith.{lt-one}
use borrow.Author.Tests.{eqb-true, eqb-false, eq-eqb}
use Rattle.sets.specs.Tests.{Set, first}
use Rattle.sets.specs.Masks.{bit, inside, prepend, members_from, members}
use Rattle.sets.specs.Lists.{all_of}
use Rattle.sets.proofs.Bools.{bif, and_l, and_r, and_i, or_tf, or_l, or_r, iff}
use Rattle.sets.proofs.Tests.{every-at, every-all, every-trim, first-yes, first-no}
use Rattle.sets.proofs.Bits.{bit-zero, bit-half, bit_high, one-digit}

-- ---- dropping the least member

pred-odd : (m : ℕ) → m % 2 ≡ 1 → bit_and m (m - 1) ≡ m / 2 * 2
pred-odd m h =
    let e : (m - 1) / 2 ≡ m / 2 = omega arith in
    let f : bit_and (m / 2) ((m - 1) / 2) ≡ m / 2 = rw e (and_self (m / 2)) in
    omega (arith, and_step m (m - 1))

pred-even : (m : ℕ) → m % 2 ≡ 0 → 0 < m → bit_and m (m - 1) ≡ bit_and (m / 2) (m / 2 - 1) * 2
pred-even m h p =
    let e : (m - 1) / 2 ≡ m / 2 - 1 = omega arith in
    let f : bit_and (m / 2) ((m - 1) / 2) ≡ bit_and (m / 2) (m / 2 - 1) = ap (bit_and (m / 2)) e in
    omega (arith, and_step m (m - 1))

-- what `members_step` says
abbrev Step : ℕ → ℕ → ℕ → Type 0
Step n i m = members_from n i m ≡ (i + count_trailing_zeros n m) ∷ members_from n i (bit_and m (m - 1))

by-digit : (n i m d : ℕ) → m % 2 ≡ d → 0 < m → (0 < m / 2 → Step n (i + 1) (m / 2)) → Step (suc n) i m
unfolding members_from count_trailing_zeros
by-digit n i m zero e p ih =
    let f : bit_and m (m - 1) ≡ bit_and (m / 2) (m / 2 - 1) * 2 = pred-even m e p in
    let g : bit_and m (m - 1) % 2 ≡ 0 = omega arith in
    let k : bit_and m (m - 1) / 2 ≡ bit_and (m / 2) (m / 2 - 1) = omega arith in
    let r : i + 1 + count_trailing_zeros n (m / 2) ≡ i + suc (count_trailing_zeros n (m / 2)) = omega arith in
    rw (e, g, k) (ih (omega arith) ∙ ap (λ (x : ℕ). x ∷ members_from n (i + 1) (bit_and (m / 2) (m / 2 - 1))) r)
by-digit n i m (suc d) e p ih =
    let o : m % 2 ≡ 1 = omega arith in
    let f : bit_and m (m - 1) ≡ m / 2 * 2 = pred-odd m o in
    let g : bit_and m (m - 1) % 2 ≡ 0 = omega arith in
    let k : bit_and m (m - 1) / 2 ≡ m / 2 = omega arith in
    let r : i ≡ i + 0 = omega arith in
    rw (o, g, k) (ap (λ (x : ℕ). x ∷ members_from n (i + 1) (m / 2)) r)

-- a mask that is not empty: its least member, and the mask without it
pub members_step : (n i m : ℕ) → 0 < m → m < 2 ^ n → members_from n i m ≡ (i + count_trailing_zeros n m) ∷ members_from n i (bit_and m (m - 1))
unfolding members_from count_trailing_zeros
members_step zero i m p h = absurd (omega arith)
members_step (suc n) i m p h = by-digit n i m (m % 2) refl p (λ q. members_step n (i + 1) (m / 2) q (shr_lt n 1 (rw add-one h)))

-- a mask of eight bits that is not empty: its least member, and the members of the mask without it
pub members-cons : (m : ℕ) → 0 < m → m < 256 → members m ≡ count_trailing_zeros 8 m ∷ members (bit_and m (m - 1))
members-cons m p h = members_step 8 0 m p h ∙ ap (λ (x : ℕ). x ∷ members (bit_and m (m - 1))) (zero-add (count_trailing_zeros 8 m))

-- the least member is one of the n numbers
pub least_lt : (n m : ℕ) → 0 < m → m < 2 ^ n → count_trailing_zeros n m < n
unfolding count_trailing_zeros
least_lt zero m p h = absurd (omega arith)
least_lt (suc n) m p h = go (m % 2) refl (λ q. least_lt n (m / 2) q (shr_lt n 1 (rw add-one h)))
  where
    go : (d : ℕ) → m % 2 ≡ d → (0 < m / 2 → count_trailing_zeros n (m / 2) < n) → under d (count_trailing_zeros n (m / 2)) < suc n
    go zero e ih = let z : count_trailing_zeros n (m / 2) < n = ih (omega arith) in omega arith
    go (suc d) e ih = omega arith

-- the empty mask has no member
pub members-none : (n i : ℕ) → members_from n i 0 ≡ []
unfolding members_from
members-none zero i = refl
members-none (suc n) i = members-none n (i + 1)

-- ---- membership

odd-bit : (m : ℕ) → bit m 0 ≡ true → m % 2 ≡ 1
odd-bit m e = eqb-true (m % 2) 1 (sym (bit-zero m) ∙ e)

bit-odd : (m : ℕ) → m % 2 ≡ 1 → bit m 0 ≡ true
bit-odd m e = bit-zero m ∙ eq-eqb (m % 2) 1 e

prepend-in : (d i x : ℕ) (r : List ℕ) → Memᴰ x r → Memᴰ x (prepend d i r)
prepend-in zero i x r m = m
prepend-in (suc d) i x r m = Memᴰ.tail m

pub members-from-in : (n i m q : ℕ) → q < n → bit m q ≡ true → Memᴰ (i + q) (members_from n i m)
unfolding members_from
members-from-in zero i m q l e = absurd (omega arith)
members-from-in (suc n) i m zero l e = rw (odd-bit m e) (Memᴰ.head (add-zero i))
members-from-in (suc n) i m (suc q) l e =
    let z : i + suc q ≡ i + 1 + q = omega arith in
    rw z (prepend-in (m % 2) i (i + 1 + q) _ (members-from-in n (i + 1) (m / 2) q (omega arith) (bit-half m q ∙ e)))

-- a member of the list, as a number of the mask
pub record Member (n i m x : ℕ) : Type 0 where
  pub number : ℕ
  pub below : number < n
  pub here : x ≡ i + number
  pub member : bit m number ≡ true

up : (n i m x : ℕ) → Member n (i + 1) (m / 2) x → Member (suc n) i m x
up n i m x r = record { number = suc r.number; below = omega (arith, r.below); here = omega (arith, r.here); member = sym (bit-half m r.number) ∙ r.member }

pub members-from-out : (n i m x : ℕ) → Memᴰ x (members_from n i m) → Member n i m x
unfolding members_from
members-from-out zero i m x k = absurd (Memᴰ.not-nil k)
members-from-out (suc n) i m x k = go (m % 2) refl (λ j. members-from-out n (i + 1) (m / 2) x j) k
  where
    go : (d : ℕ) → m % 2 ≡ d → (Memᴰ x (members_from n (i + 1) (m / 2)) → Member n (i + 1) (m / 2) x) → Memᴰ x (prepend d i (members_from n (i + 1) (m / 2))) → Member (suc n) i m x
    go zero e ih k = up n i m x (ih k)
    go (suc d) e ih k =
        ⊎_elim
        (λ p. record { number = 0; below = omega arith; here = p ∙ sym (add-zero i); member = bit-odd m (omega arith) })
        (λ j. up n i m x (ih j))
        (Memᴰ.cases_cons k)

pub members-in : (m q : ℕ) → q < 8 → bit m q ≡ true → Memᴰ q (members m)
members-in m q l e = rw zero-add at (members-from-in 8 0 m q l e)

pub members-out : (m q : ℕ) → Memᴰ q (members m) → (q < 8) × (bit m q ≡ true)
members-out m q k =
    let r = members-from-out 8 0 m q k in
    let e : r.number ≡ q = sym (r.here ∙ zero-add r.number) in
    (omega (arith, r.below), ap (bit m) (sym e) ∙ r.member)

-- ---- how many

prepend-length : (d i : ℕ) (r : List ℕ) → d < 2 → length (prepend d i r) ≡ d + length r
prepend-length d i r = one-digit (λ d. length (prepend d i r) ≡ d + length r) (omega arith) (omega arith) d

members-ones : (n i m : ℕ) → m < 2 ^ n → length (members_from n i m) ≡ ones m
unfolding members_from ones ones_in
members-ones zero i m h = sym (ap ones (lt-one h))
members-ones (suc n) i m h =
    prepend-length (m % 2) i (members_from n (i + 1) (m / 2)) (omega arith)
    ∙ ap (λ (x : ℕ). m % 2 + x) (members-ones n (i + 1) (m / 2) (shr_lt n 1 (rw add-one h)))
    ∙ sym (ones_step m)

-- ---- the least member

pub least_first : (n m : ℕ) (f : Set) (a : ℕ) → ((q : ℕ) → q < n → f (a + q) ≡ bit m q) → first n f a ≡ a + count_trailing_zeros n m
unfolding first count_trailing_zeros
least_first zero m f a h = sym (add-zero a)
least_first (suc n) m f a h =
    let z : f a ≡ bit m 0 = ap f (sym (add-zero a)) ∙ h 0 (omega arith) in
    bif (bit m 0) (λ t. first-yes n f a (z ∙ t) ∙ rw (odd-bit m t) (sym (add-zero a)))
    (λ t. let d : m % 2 ≡ 0 = (let k = eqb-false (m % 2) 1 (sym (bit-zero m) ∙ t) in omega arith) in
    first-no n f a (z ∙ t) ∙ least_first n (m / 2) f (suc a) (λ q l. let e : suc a + q ≡ a + suc q = omega arith in ap f e ∙ h (suc q) (omega arith) ∙ sym (bit-half m q)) ∙ rw d (omega arith))

-- what trailing zeros count: the least member of m, or n
pub least-is : (n m : ℕ) → count_trailing_zeros n m ≡ first n (bit m) 0
least-is n m = sym (least_first n m (bit m) 0 (λ q l. ap (bit m) (zero-add q)) ∙ zero-add (count_trailing_zeros n m))

-- what `rest-bit` says
abbrev Rest : ℕ → ℕ → ℕ → Type 0
Rest n m q = bit (bit_and m (m - 1)) q ≡ bit m q && not (eqb q (count_trailing_zeros n m))

double-zero : (x : ℕ) → bit (x * 2) 0 ≡ false
double-zero x = let e : x * 2 % 2 ≡ 0 = omega arith in bit-zero (x * 2) ∙ ap (λ (y : ℕ). eqb y 1) e

double-suc : (x q : ℕ) → bit (x * 2) (suc q) ≡ bit x q
double-suc x q = let e : x * 2 / 2 ≡ x = omega arith in sym (bit-half (x * 2) q) ∙ ap (λ (y : ℕ). bit y q) e

rest-digit : (n m q d : ℕ) → m % 2 ≡ d → 0 < m → ((p : ℕ) → 0 < m / 2 → Rest n (m / 2) p) → Rest (suc n) m q
unfolding count_trailing_zeros
rest-digit n m zero zero e p ih =
    let b : bit m 0 ≡ false = bit-zero m ∙ ap (λ (x : ℕ). eqb x 1) e in
    ap (λ (x : ℕ). bit x 0) (pred-even m e p) ∙ double-zero (bit_and (m / 2) (m / 2 - 1)) ∙ rw b
rest-digit n m (suc q) zero e p ih =
    ap (λ (x : ℕ). bit x (suc q)) (pred-even m e p) ∙ double-suc (bit_and (m / 2) (m / 2 - 1)) q ∙ ih q (omega arith)
    ∙ rw (e, bit-half m q) (sym (ap (λ (b : Bool). bit m (suc q) && not b) (eqb-suc-suc q (count_trailing_zeros n (m / 2)))))
rest-digit n m zero (suc d) e p ih =
    let o : m % 2 ≡ 1 = omega arith in
    let b : bit m 0 ≡ true = bit-odd m o in
    ap (λ (x : ℕ). bit x 0) (pred-odd m o) ∙ double-zero (m / 2) ∙ rw (b, o)
rest-digit n m (suc q) (suc d) e p ih =
    let o : m % 2 ≡ 1 = omega arith in
    ap (λ (x : ℕ). bit x (suc q)) (pred-odd m o) ∙ double-suc (m / 2) q ∙ bit-half m q ∙ rw o (sym (ap (λ (b : Bool). bit m (suc q) && not b) (eqb-suc-zero q) ∙ and-true (bit m (suc q))))

-- the mask without its least member
pub rest-bit : (n m q : ℕ) → 0 < m → m < 2 ^ n → bit (bit_and m (m - 1)) q ≡ bit m q && not (eqb q (count_trailing_zeros n m))
rest-bit zero m q p h = absurd (omega arith)
rest-bit (suc n) m q p h = rest-digit n m q (m % 2) refl p (λ x k. rest-bit n (m / 2) x k (shr_lt n 1 (rw add-one h)))

-- ---- all members in a set

pub all-of-at : (ys : List ℕ) (f : Set) → all_of ys f ≡ true → (x : ℕ) → Memᴰ x ys → f x ≡ true
unfolding all_of
all-of-at [] f e x x4 = elim x4 [ ]
all-of-at (y ∷ ys) f e x (Memᴰ.head p) = ap f p ∙ and_l (f y) (all_of ys f) e
all-of-at (y ∷ ys) f e x (Memᴰ.tail k) = all-of-at ys f (and_r (f y) (all_of ys f) e) x k

pub all-of-all : (ys : List ℕ) (f : Set) → ((x : ℕ) → Memᴰ x ys → f x ≡ true) → all_of ys f ≡ true
unfolding all_of
all-of-all [] f h = refl
all-of-all (y ∷ ys) f h = and_i (h y (Memᴰ.head refl)) (all-of-all ys f (λ x m. h x (Memᴰ.tail m)))

pub inside-at : (n : ℕ) (X : Set) (m : ℕ) → inside n X m ≡ true → (q : ℕ) → q < n → bit m q ≡ true → X q ≡ true
unfolding inside
inside-at n X m e q l b = or_tf (bit m q) (X q) (every-at n (λ p. not (bit m p) || X p) e q l) b

pub inside-all : (n : ℕ) (X : Set) (m : ℕ) → ((q : ℕ) → q < n → bit m q ≡ true → X q ≡ true) → inside n X m ≡ true
unfolding inside
inside-all n X m h = every-all n (λ q. not (bit m q) || X q) (λ q l. bif (bit m q) (λ t. or_r (not (bit m q)) (X q) (h q l t)) (λ t. or_l (not (bit m q)) (X q) (ap not t)))

-- `inside`, by the list of members
pub inside-members : (X : Set) (m : ℕ) → inside 8 X m ≡ all_of (members m) X
inside-members X m =
    iff (inside 8 X m) (all_of (members m) X)
    (λ t. all-of-all (members m) X (λ q k. let r = members-out m q k in inside-at 8 X m t q r.0 r.1))
    (λ t. inside-all 8 X m (λ q l b. all-of-at (members m) X t q (members-in m q l b)))

-- a mask of n digits has no members beyond n
pub inside-trim : (n k : ℕ) (X : Set) (m : ℕ) → n ≤ k → m < 2 ^ n → inside k X m ≡ inside n X m
unfolding inside
inside-trim n k X m l h = every-trim k n (λ q. not (bit m q) || X q) l (λ p a b. or_l (not (bit m p)) (X p) (ap not (bit_high n m p h a)))
