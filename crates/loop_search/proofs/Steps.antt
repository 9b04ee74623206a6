-- Laws of the masks of the search.
use mathlib.Core.Path.{◌≡◌, sym, ◌∙◌, ap, ap₂}
use mathlib.Core.Bool.{Bool, true, false, ◌&&◌, not, and-false}
use mathlib.Core.List.{List}
use Prim.Native.Nat.{ℕ, zero, suc, ◌+◌, ◌-◌, ◌*◌, ◌%◌, ◌^◌, ◌≤◌, ◌<◌}
use native.Mathlib.Omega.{arith}
use native.Mathlib.Numerals.{add-one}
use lib.Bits.{bit_and, bit_or, or_lt, and_le_l}
use lib.Dec.{ltb}
use lib.Pow.{pow-lt}
use borrow.Author.Tests.{lt-ltb, le-ltb}
use Rattle.sets.specs.Tests.{Set, some_below, first}
use Rattle.sets.specs.Masks.{bit}
use Rattle.sets.proofs.Tests.{some-trim, first-no, first-yes}
use Rattle.sets.proofs.Masks.{mask_lt, bit_mask, mask-ext, mask-trim}
use Rattle.sets.proofs.Bits.{bit-and, bit-or, bit_high, mask-unique, mask-bit, shl_one}
use Rattle.set_masks.specs.Sets.{full_of, difference_of}
use Rattle.loop_spec.specs.declared.Ways.{Ways}
use Rattle.loop_spec.specs.Search.{others_of_lem, sources, step_back_lem, ways}

-- a set of states below n is met below n
pub meets-below : (n x set : ℕ) → n ≤ 8 → set < 2 ^ n → some_below 8 (λ p. bit x p && bit set p) ≡ some_below n (λ p. bit x p && bit set p)
meets-below n x set h l = some-trim 8 n (λ p. bit x p && bit set p) h (λ p k m. rw (bit_high n set p l k, and-false))

pub sources-lt : (n : ℕ) (es : List ℕ) (set : ℕ) → sources n es set < 2 ^ n
unfolding sources
sources-lt n es set = mask_lt n _

-- the other states than the accepting ones
pub others-accepting : (n accepting t : ℕ) → n ≤ 8 → bit accepting t ≡ true → difference_of (full_of n) accepting ≡ others_of_lem n accepting t
unfolding others_of_lem
others-accepting n accepting t h e =
    mask-trim 8 n (λ q. bit (full_of n) q && not (bit accepting q)) h (λ j k m. rw (bit_mask 8 (λ q. ltb q n) j m, le-ltb j n k))
    ∙ mask-ext n _ _ (λ q k. rw (bit_mask 8 (λ q. ltb q n) q (omega arith), lt-ltb q n k, e))

pub others-rejecting : (n accepting t : ℕ) → accepting < 2 ^ n → bit accepting t ≡ false → accepting ≡ others_of_lem n accepting t
unfolding others_of_lem
others-rejecting n accepting t l e = rw e (sym (mask-bit n accepting l))

-- one step more
pub step-mixed : (n : ℕ) (es : List ℕ) (others : ℕ) (w : Ways) (any mixed : ℕ) → any ≡ sources n es w.any → mixed ≡ sources n es w.mixed
    → bit_or mixed (bit_and any others) ≡ (step_back_lem n es (bit others) w).mixed
unfolding step_back_lem
step-mixed n es others w any mixed e f =
    rw (e, f)
    (mask-unique n (bit_or (sources n es w.mixed) (bit_and (sources n es w.any) others)) _
    (or_lt n (sources n es w.mixed) (bit_and (sources n es w.any) others) (sources-lt n es w.mixed) (omega (arith, and_le_l (sources n es w.any) others, sources-lt n es w.any)))
    (λ q l. rw (bit-or (sources n es w.mixed) (bit_and (sources n es w.any) others) q, bit-and (sources n es w.any) others q)))

abbrev pub both : ℕ → ℕ → Ways
both any mixed = record { any = any; mixed = mixed }

pub step_is : (n : ℕ) (es : List ℕ) (others : ℕ) (w : Ways) (any mixed : ℕ) → any ≡ sources n es w.any → mixed ≡ sources n es w.mixed
    → both any (bit_or mixed (bit_and any others)) ≡ step_back_lem n es (bit others) w
unfolding step_back_lem
step_is n es others w any mixed e f = ap₂ both e (step-mixed n es others w any mixed e f)

ways-lt : (n : ℕ) (es : List ℕ) (others t k : ℕ) → t < n → ((ways n es (bit others) t k).any < 2 ^ n) × ((ways n es (bit others) t k).mixed < 2 ^ n)
unfolding ways step_back_lem
ways-lt n es others t zero l = (pow-lt l, omega (arith, pow-lt l))
ways-lt n es others t (suc k) l = (sources-lt n es _, mask_lt n _)

-- what a step asks of the masks that it starts from
pub ways-bounds : (n : ℕ) (es : List ℕ) (others t k : ℕ) (w : Ways) → n ≤ 8 → t < n → w ≡ ways n es (bit others) t k → (n ≤ 8) × (w.any < 2 ^ n) × (w.mixed < 2 ^ n)
ways-bounds n es others t k w h l e = let b = ways-lt n es others t k l in (h, rw e b.0, rw e b.1)

pub ways-none : (n : ℕ) (es : List ℕ) (others t : ℕ) → n ≤ 8 → t < n → both (1 * 2 ^ t % 256) 0 ≡ ways n es (bit others) t 0
unfolding ways
ways-none n es others t h l = ap (λ (x : ℕ). both x 0) (shl_one 8 t (omega arith))

pub ways_next : (n : ℕ) (es : List ℕ) (others t k : ℕ) (v w : Ways) → w ≡ ways n es (bit others) t k → v ≡ step_back_lem n es (bit others) w → v ≡ ways n es (bit others) t (k + 1)
unfolding ways
ways_next n es others t k v w e f = rw (add-one k) (f ∙ ap (step_back_lem n es (bit others)) e)

-- a mixed loop of t and k states after it
abbrev pub mixed : ℕ → List ℕ → ℕ → ℕ → Set
mixed n es others t k = bit (ways n es (bit others) t (suc k)).mixed t

-- whether a walk of k steps more than one from t to t passes a state of the other kind
pub mixed-at : (n : ℕ) (es : List ℕ) (others t k : ℕ) (v : Ways) (b : Bool) → v ≡ ways n es (bit others) t (k + 1) → b ≡ bit v.mixed t → bit (ways n es (bit others) t (suc k)).mixed t ≡ b
mixed-at n es others t k v b e f = ap (λ (x : Ways). bit x.mixed t) (sym (rw (add-one k) at e)) ∙ sym f

-- ---- a search from 0 that stands at k

pub first-here : (n : ℕ) (f : Set) (k : ℕ) → k < n → f k ≡ true → first (n - k) f k ≡ k
first-here n f k l e = let x : n - k ≡ suc (n - (k + 1)) = omega arith in rw x (first-yes (n - (k + 1)) f k e)

pub first_on : (n : ℕ) (f : Set) (k : ℕ) → k < n → f k ≡ false → first (n - k) f k ≡ first (n - (k + 1)) f (k + 1)
first_on n f k l e = let x : n - k ≡ suc (n - (k + 1)) = omega arith in rw (x, add-one k) (first-no (n - suc k) f k e)

pub first-end : (n : ℕ) (f : Set) → first (n - n) f n ≡ n
unfolding first
first-end n f = let x : n - n ≡ 0 = omega arith in rw x
