-- Sets of lines as masks: meets, whether a line is in them, and the least line.
use mathlib.Core.Path.{◌≡◌, sym, ◌∙◌, ap, ap₂}
use mathlib.Core.Bool.{Bool, true, false, ◌&&◌, not}
use mathlib.Core.List.{List}
use Prim.Native.Nat.{ℕ, ◌≤◌, ◌<◌}
use native.Mathlib.Omega.{arith}
use native.Mathlib.Nat.{lt_of_le_of_lt, zero-add}
use lib.Dec.{eqb}
use lib.ListN.{get_or}
use lib.Bits.{bit_and, and_le_l}
use lib.Count.{count_trailing_zeros, trailing_of_zero}
use borrow.Author.Tests.{eqb-true, eq-eqb}
use Rattle.sets.specs.Tests.{Set, some_below, first}
use Rattle.sets.specs.Masks.{bit, mask}
use Rattle.sets.proofs.Bools.{bif, and_l, and_r, and_i, not_t, iff}
use Rattle.sets.proofs.Tests.{some_at, some-no, some-none, some-ext}
use Rattle.sets.proofs.Masks.{mask_lt, bit_mask, mask-none}
use Rattle.sets.proofs.Bits.{bit-and, bit-none, mask-unique}
use Rattle.sets.proofs.Members.{least-is}
use Rattle.sets.proofs.Lists.{tabulate-at}
use Rattle.event_spec.specs.Events.{line_count, spans, holds}
use Rattle.event_table.proofs.Ranges.{first-is, none_before, first_found}
use Rattle.event_table.specs.Masks.{masks_of_lem, Masks}

mask-and : (n : ℕ) (f g : Set) → bit_and (mask n f) (mask n g) ≡ mask n (λ q. f q && g q)
mask-and n f g =
    mask-unique n (bit_and (mask n f) (mask n g)) (λ q. f q && g q) (lt_of_le_of_lt (and_le_l (mask n f) (mask n g)) (mask_lt n f))
    (λ q l. bit-and (mask n f) (mask n g) q ∙ ap₂ (λ (x y : Bool). x && y) (bit_mask n f q l) (bit_mask n g q l))

pub masks-at : (t : List ℕ) (i x : ℕ) → x < 256 → get_or (masks_of_lem t i) x 0 ≡ mask (line_count t) (spans t i x)
unfolding masks_of_lem
masks-at t i x l = tabulate-at 256 (λ z. mask (line_count t) (spans t i z)) 0 x l ∙ ap (λ (z : ℕ). mask (line_count t) (spans t i z)) (zero-add x)

-- the lines of a kind that are lines of a drive are the lines that hold both
pub meet : (t kinds drives : List ℕ) → Masks t kinds drives → (x y : ℕ) → x < 256 → y < 256
    → bit_and (get_or kinds x 0) (get_or drives y 0) ≡ mask (line_count t) (holds t x y)
unfolding holds
meet t kinds drives m x y lx ly =
    ap₂ bit_and (ap (λ (l : List ℕ). get_or l x 0) m.of_kinds ∙ masks-at t 0 x lx) (ap (λ (l : List ℕ). get_or l y 0) m.of_drives ∙ masks-at t 2 y ly)
    ∙ mask-and (line_count t) (spans t 0 x) (spans t 2 y)

module _ (n : ℕ) (f : Set) where
  -- the empty mask
  pub none_of : mask n f ≡ 0 → some_below n f ≡ false
  none_of e = some-none n f (λ q l. sym (bit_mask n f q l) ∙ ap (λ (m : ℕ). bit m q) e ∙ bit-none q)

  pub empty_of : some_below n f ≡ false → mask n f ≡ 0
  empty_of e = mask-none n f (λ q l. some-no n f e q l)

  module _ (h : n ≤ 64) where
    -- trailing zeros count to the first line
    pub least_first : some_below n f ≡ true → count_trailing_zeros 64 (mask n f) ≡ first n f 0
    least_first e =
        let r = first_found n f e in
        let l = r.0 in
        least-is 64 (mask n f) ∙ first-is 64 (bit (mask n f)) (first n f 0) (omega arith) (bit_mask n f (first n f 0) l ∙ r.1)
        (some-ext (first n f 0) (bit (mask n f)) f (λ q k. bit_mask n f q (omega arith)) ∙ none_before n f)

    least-none : some_below n f ≡ false → count_trailing_zeros 64 (mask n f) ≡ 64
    least-none e = ap (count_trailing_zeros 64) (empty_of e) ∙ trailing_of_zero 64

    -- they count to j exactly if f holds at j and nowhere before it
    pub least_at : (j : ℕ) → j < n → eqb (count_trailing_zeros 64 (mask n f)) j ≡ f j && not (some_below j f)
    least_at j l =
        iff (eqb (count_trailing_zeros 64 (mask n f)) j) (f j && not (some_below j f))
        (λ e. let z = eqb-true (count_trailing_zeros 64 (mask n f)) j e in
        bif (some_below n f)
        (λ s. let p = sym (least_first s) ∙ z in
        and_i (ap f (sym p) ∙ (first_found n f s).1) (ap not (ap (λ (k : ℕ). some_below k f) (sym p) ∙ none_before n f)))
        (λ s. let k = least-none s in absurd (omega arith)))
        (λ e. let t = and_l (f j) (not (some_below j f)) e in
        eq-eqb (count_trailing_zeros 64 (mask n f)) j
        (least_first (some_at n f j l t) ∙ first-is n f j l t (not_t (some_below j f) (and_r (f j) (not (some_below j f)) e))))

    -- they count to no number that is neither below n nor 64
    pub least-out : (j : ℕ) → n ≤ j → j < 64 → eqb (count_trailing_zeros 64 (mask n f)) j ≡ false
    least-out j l k =
        bif (eqb (count_trailing_zeros 64 (mask n f)) j)
        (λ e. let z = eqb-true (count_trailing_zeros 64 (mask n f)) j e in
        bif (some_below n f)
        (λ s. let p = least_first s in let r = (first_found n f s).0 in absurd (omega arith))
        (λ s. let p = least-none s in absurd (omega arith)))
        (λ e. e)
