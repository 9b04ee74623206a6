-- One turn of the loops over lines, over the values of a byte, and over pairs.
use mathlib.Core.Path.{◌≡◌, refl, sym, ◌∙◌, ap}
use mathlib.Core.Bool.{◌||◌}
use mathlib.Core.List.{List}
use Prim.Native.Nat.{ℕ, ◌+◌, ◌*◌, ◌^◌, ◌%◌, ◌<◌}
use native.Mathlib.Omega.{arith}
use native.Mathlib.Nat.{lt_of_lt_of_le}
use native.Mathlib.Numerals.{add-one}
use lib.Dec.{eqb}
use lib.ListN.{length, get_or}
use lib.Seq.{ext_get_or}
use lib.Bits.{bit_or}
use lib.Count.{count_trailing_zeros, trailing_of_zero}
use lib.Pow.{pow_mono, pow-lt}
use borrow.Author.Tests.{ne_eqb}
use Rattle.sets.specs.Tests.{Set, one, some_below}
use Rattle.sets.specs.Masks.{mask}
use Rattle.sets.proofs.Masks.{mask_lt, mask-ext, mask-none}
use Rattle.sets.proofs.Bits.{mask-or, mask-unique, bit-shl-one, shl_one}
use Rattle.sets.proofs.Members.{least_lt}
use Rattle.sets.proofs.Lists.{length-tabulate}
use Rattle.event_spec.specs.Events.{line_count, spans}
use Rattle.event_table.specs.Masks.{masks_of_lem, least_of_lem}
use Rattle.event_table.proofs.Meets.{masks-at}

-- ---- a mask, from number 0 up

pub mask_start : (f : Set) → 0 ≡ mask 0 f
mask_start f = unfold mask in refl

pub mask-more : (k : ℕ) (f : Set) → mask k f + one (f k) * 2 ^ k ≡ mask (k + 1) f
mask-more k f = unfold mask in rw (add-one k) (omega arith)

pub mask_fits : (k : ℕ) (f : Set) → k < 64 → mask (k + 1) f < 18446744073709551616
mask_fits k f l = lt_of_lt_of_le (mask_lt (k + 1) f) (pow_mono {i = k + 1} {j = 64} (omega arith))

-- the masks of all values of a byte
pub masks-whole : (t : List ℕ) (i : ℕ) (ms : List ℕ) → length ms ≡ 256 → ((x : ℕ) → x < 256 → get_or ms x 0 ≡ mask (line_count t) (spans t i x)) → ms ≡ masks_of_lem t i
unfolding masks_of_lem
masks-whole t i ms n h =
    ext_get_or 0 ms _ (n ∙ sym (length-tabulate 256 (λ x. mask _ _) 0)) (λ x l. h x (omega arith) ∙ sym (masks-at t i x (omega arith)))

-- ---- the least number of a mask

pub least-empty : (m : ℕ) → m ≡ 0 → 0 ≡ least_of_lem m
least-empty m e =
    sym (mask-none 64 (λ j. eqb (count_trailing_zeros 64 m) j) (λ j l. ap (λ (k : ℕ). eqb (count_trailing_zeros 64 k) j) e ∙ ap (λ (k : ℕ). eqb k j) (trailing_of_zero 64) ∙ ne_eqb 64 j (λ z. omega arith)))

pub least-mask : (m : ℕ) → 0 < m → m < 2 ^ 64 → 1 * 2 ^ count_trailing_zeros 64 m % 2 ^ 64 ≡ least_of_lem m
least-mask m p h =
    let l = least_lt 64 m p h in
    shl_one 64 (count_trailing_zeros 64 m) l ∙ mask-unique 64 (2 ^ count_trailing_zeros 64 m) (λ j. eqb (count_trailing_zeros 64 m) j) (pow-lt l) (λ q k. bit-shl-one (count_trailing_zeros 64 m) q)

-- ---- a union, from number 0 up

pub union-start : (g : ℕ → Set) → 0 ≡ mask 64 (λ j. some_below 0 (λ z. g z j))
union-start g = unfold some_below in sym (mask-none 64 (λ j. some_below 0 (λ z. g z j)) (λ j l. refl))

pub union_more : (g : ℕ → Set) (k : ℕ) → bit_or (mask 64 (λ j. some_below k (λ z. g z j))) (mask 64 (g k)) ≡ mask 64 (λ j. some_below (k + 1) (λ z. g z j))
unfolding some_below
union_more g k =
    mask-or 64 (λ j. some_below k (λ z. g z j)) (g k)
    ∙ mask-ext 64 (λ j. some_below k (λ z. g z j) || g k j) (λ j. some_below (k + 1) (λ z. g z j)) (λ j l. ap (λ (n : ℕ). some_below n (λ z. g z j)) (sym (add-one k)))
