-- Labels, literal by literal.
use mathlib.Core.Path.{◌≡◌, refl, sym, ◌∙◌, ap}
use mathlib.Core.List.{List, [], ◌∷◌, ◌++◌}
use Prim.Native.Nat.{ℕ, zero, suc, ◌+◌, ◌-◌, ◌/◌, ◌%◌, ◌^◌, ◌≤◌, ◌<◌}
use native.Mathlib.Omega.{arith}
use lib.Bits.{bit_and, and_mask}
use lib.ListN.{length, length-append}
use borrow.Author.Tests.{eq-eqb, ne_eqb}
use Rattle.sets.specs.Masks.{bit}
use Rattle.slice_text.specs.Decimal.{digit}
use Rattle.slice_text.specs.Put.{Put}
use Rattle.slice_text.proofs.Puts.{put_as, put_then}
use Rattle.hoa_spec.specs.Lines.{literal, label}
use Rattle.hoa_laws.proofs.Labels.{label-add}
use Rattle.hoa_laws.proofs.Lengths.{literal-yes, literal-no}

module _ (letter i : ℕ) where
  pub set-literal : bit_and (letter / 2 ^ i) 1 ≡ 1 → literal letter i ≡ digit i ∷ []
  unfolding bit
  set-literal e = literal-yes letter i (eq-eqb (letter / 2 ^ i % 2) 1 (sym (and_mask (letter / 2 ^ i) 1) ∙ e))

  pub unset-literal : (bit_and (letter / 2 ^ i) 1 ≡ 1 → ⊥) → literal letter i ≡ 33 ∷ digit i ∷ []
  unfolding bit
  unset-literal n = literal-no letter i (ne_eqb (letter / 2 ^ i % 2) 1 (λ e. n (and_mask (letter / 2 ^ i) 1 ∙ e)))

module _ (letter : ℕ) where
  pub label-none : (b : ℕ) → b ≡ 0 → label b letter ≡ 116 ∷ []
  unfolding label
  label-none b e = ap (λ (k : ℕ). label k letter) e

  pub label-one : label 1 letter ≡ literal letter 0
  unfolding label
  label-one = refl

  -- one literal more
  pub label-next : (i : ℕ) → 1 ≤ i → label (i + 1) letter ≡ label i letter ++ (38 ∷ literal letter i)
  label-next i h = label-add i letter h

  -- a label is no longer than one over more propositions
  longer : (i d : ℕ) → 1 ≤ i → length (label i letter) ≤ length (label (i + d) letter)
  longer i zero h = let e : i + zero ≡ i = omega arith in omega (arith, ap (λ (k : ℕ). length (label k letter)) e)
  longer i (suc d) h =
      let e : i + suc d ≡ i + d + 1 = omega arith in
      let f = ap length (label-next (i + d) (omega arith)) in
      omega (arith, longer i d h, ap (λ (k : ℕ). length (label k letter)) e, f, length-append (label (i + d) letter) (38 ∷ literal letter (i + d)))

  pub label-grows : (i b : ℕ) → 1 ≤ i → i ≤ b → length (label i letter) ≤ length (label b letter)
  label-grows i b h l = let e : i + (b - i) ≡ b = omega arith in omega (arith, longer i (b - i) h, ap (λ (k : ℕ). length (label k letter)) e)

  -- the next literal and the `&` before it
  module _ (i b : ℕ) (h : 1 ≤ i) (l : i < b) where
    pub next-length : length (label i letter) + 1 + length (literal letter i) ≤ length (label b letter)
    next-length = omega (arith, label-grows (i + 1) b (omega arith) (omega arith), ap length (label-next i h), length-append (label i letter) (38 ∷ literal letter i))

  module _ {d : List ℕ} {at : ℕ} {d₁ : List ℕ} {e : ℕ} (i : ℕ) (h : 1 ≤ i) (P : Put d at (label i letter) d₁ e) where
    pub put_next : {d₂ d₃ : List ℕ} {a r : ℕ} → Put d₁ e (38 ∷ []) d₂ a → Put d₂ a (literal letter i) d₃ r → Put d at (label (i + 1) letter) d₃ r
    put_next Q R = put_as (label-next i h) (put_then P (put_then Q R))
