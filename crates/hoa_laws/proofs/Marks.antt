-- Flags by number: which numbers are accepting, and which of them initial.
use mathlib.Core.Path.{◌≡◌, refl, sym, ◌∙◌, ap}
use mathlib.Core.Bool.{Bool, true, cond}
use mathlib.Core.List.{List, [], ◌∷◌}
use mathlib.Core.Logic.{by_cases}
use Prim.Native.Nat.{ℕ, zero, suc, ◌+◌, ◌≤◌, ◌<◌}
use native.Mathlib.Omega.{arith}
use native.Mathlib.Decide.{dec_lt}
use native.Mathlib.Nat.{add-zero, zero-add}
use lib.Dec.{ltb}
use lib.ListN.{length, get_or}
use lib.Seq.{ext_get_or}
use borrow.Author.Tests.{lt-ltb, le-ltb}
use Rattle.sets.specs.Masks.{bit}
use Rattle.sets.proofs.Bits.{bit-ext, bit-none}
use Rattle.hoa_spec.specs.Shape.{flags_from, Marked}

module _ (accepting : ℕ) where
  pub flags-length : (i : ℕ) (starts : List ℕ) → length (flags_from accepting i starts) ≡ length starts
  unfolding flags_from
  flags-length i [] = refl
  flags-length i (s ∷ starts) = ap suc (flags-length (suc i) starts)

  flag_at : (i : ℕ) (starts : List ℕ) (j : ℕ) → j < length starts → get_or (flags_from accepting i starts) j 0 ≡ cond (ltb (i + j) accepting) (2 + get_or starts j 0) 0
  unfolding flags_from
  flag_at i [] j h = absurd (omega arith)
  flag_at i (s ∷ starts) zero h = ap (λ (k : ℕ). cond (ltb k accepting) (2 + s) 0) (sym (add-zero i))
  flag_at i (s ∷ starts) (suc j) h =
      let e : suc i + j ≡ i + suc j = omega arith in
      flag_at (suc i) starts j (omega arith) ∙ ap (λ (k : ℕ). cond (ltb k accepting) (2 + get_or starts j 0) 0) e

  module _ (starts : List ℕ) (j : ℕ) (h : j < length starts) where
    at : get_or (flags_from accepting 0 starts) j 0 ≡ cond (ltb j accepting) (2 + get_or starts j 0) 0
    at = flag_at 0 starts j h ∙ ap (λ (k : ℕ). cond (ltb k accepting) (2 + get_or starts j 0) 0) (zero-add j)

    pub flag-accepting : j < accepting → get_or (flags_from accepting 0 starts) j 0 ≡ 2 + get_or starts j 0
    flag-accepting l = at ∙ ap (λ (t : Bool). cond t (2 + get_or starts j 0) 0) (lt-ltb j accepting l)

    pub flag-other : accepting ≤ j → get_or (flags_from accepting 0 starts) j 0 ≡ 0
    flag-other l = at ∙ ap (λ (t : Bool). cond t (2 + get_or starts j 0) 0) (le-ltb j accepting l)

high_bit : (s : ℕ) → s ≤ 1 → bit (2 + s) 1 ≡ true
unfolding bit
high_bit zero h = refl
high_bit (suc zero) h = refl
high_bit (suc (suc s)) h = absurd (omega arith)

low_bit : (s : ℕ) → s ≤ 1 → bit (2 + s) 0 ≡ bit s 0
unfolding bit
low_bit zero h = refl
low_bit (suc zero) h = refl
low_bit (suc (suc s)) h = absurd (omega arith)

module _ (accepting : ℕ) (starts : List ℕ) (each : (i : ℕ) → get_or starts i 0 ≤ 1) (begins : (i : ℕ) → accepting ≤ i → get_or starts i 0 ≡ 0) (j : ℕ) (h : j < length starts) where
  -- the accepting flag, and the initial one
  pub accepting-bit : bit (get_or (flags_from accepting 0 starts) j 0) 1 ≡ ltb j accepting
  accepting-bit =
      by_cases (dec_lt j accepting)
      (λ l. ap (λ (f : ℕ). bit f 1) (flag-accepting accepting starts j h l) ∙ high_bit (get_or starts j 0) (each j) ∙ sym (lt-ltb j accepting l))
      (λ n. let l : accepting ≤ j = omega arith in
      ap (λ (f : ℕ). bit f 1) (flag-other accepting starts j h l) ∙ bit-none 1 ∙ sym (le-ltb j accepting l))

  pub initial-bit : bit (get_or (flags_from accepting 0 starts) j 0) 0 ≡ bit (get_or starts j 0) 0
  initial-bit =
      by_cases (dec_lt j accepting)
      (λ l. ap (λ (f : ℕ). bit f 0) (flag-accepting accepting starts j h l) ∙ low_bit (get_or starts j 0) (each j))
      (λ n. let l : accepting ≤ j = omega arith in
      ap (λ (f : ℕ). bit f 0) (flag-other accepting starts j h l) ∙ ap (λ (f : ℕ). bit f 0) (sym (begins j l)))

module _ {fs : List ℕ} (M : Marked fs) where
  pub marked-length : length fs ≡ length M.starts
  marked-length = ap length M.flags_are ∙ flags-length M.accepting 0 M.starts

  module _ (j : ℕ) (h : j < length fs) where
    here : j < length M.starts
    here = omega (arith, marked-length)

    pub marked-bit : bit (get_or fs j 0) 1 ≡ ltb j M.accepting
    marked-bit = ap (λ (gs : List ℕ). bit (get_or gs j 0) 1) M.flags_are ∙ accepting-bit M.accepting M.starts M.each M.begins j here

    pub marked-small : get_or fs j 0 < 4
    marked-small =
        let e : get_or fs j 0 ≡ get_or (flags_from M.accepting 0 M.starts) j 0 = ap (λ (gs : List ℕ). get_or gs j 0) M.flags_are in
        by_cases (dec_lt j M.accepting)
        (λ l. omega (arith, flag-accepting M.accepting M.starts j here l, M.each j))
        (λ n. let l : M.accepting ≤ j = omega arith in omega (arith, flag-other M.accepting M.starts j here l))

-- flags are told by both bits
pub flags-same : {fs gs : List ℕ} → Marked fs → Marked gs → length fs ≡ length gs
    → ((i : ℕ) → i < length fs → bit (get_or fs i 0) 0 ≡ bit (get_or gs i 0) 0)
    → ((i : ℕ) → i < length fs → bit (get_or fs i 0) 1 ≡ bit (get_or gs i 0) 1) → fs ≡ gs
flags-same {fs} {gs} M N h low high =
    ext_get_or 0 fs gs h (λ i l. bit-ext 2 (get_or fs i 0) (get_or gs i 0) (marked-small M i l) (marked-small N i (omega arith)) (both i l))
  where
    both : (i : ℕ) → i < length fs → (q : ℕ) → q < 2 → bit (get_or fs i 0) q ≡ bit (get_or gs i 0) q
    both i l zero g = low i l
    both i l (suc zero) g = high i l
    both i l (suc (suc q)) g = absurd (omega arith)
