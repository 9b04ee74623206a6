-- Rows 12 to 14: each row, and the words that pass.
use mathlib.Core.Path.{◌≡◌, refl, sym, ◌∙◌}
use mathlib.Core.Logic.{◌↔◌}
use mathlib.Core.Bool.{Bool, true, false, ◌||◌}
use mathlib.Core.List.{List, [], Memᴰ}
use Prim.Native.Nat.{ℕ, ◌≤◌, ◌<◌}
use native.Mathlib.Omega.{arith}
use lib.Dec.{eqb, leb, ltb}
use lib.ListN.{length}
use borrow.Author.Tests.{eqb-false, eq-eqb, ne_eqb, ltb-false, lt-ltb, le-ltb, leb-false, lt-leb}
use Rattle.sets.specs.Lists.{any_of}
use Rattle.std.specs.Prelude.{Ok, Err}
use Rattle.refusals.specs.Rows.{first_refusal, first_row}
use Rattle.refusals.specs.declared.Refusal.{Refusal}
use Rattle.refusals.specs.declared.Refusal.TheVariants.{NoCycle, LongWord, Letter}
use Rattle.sets.proofs.Bools.{or-fl, or-fr, or_l, or_r}
use Rattle.sets.proofs.Lists.{any_none, none_any}
use Rattle.refusals.proofs.Rows.{numbered, first-parts, first-pass, refusal-left, refusal-right, row-passes}
use Rattle.theory.specs.Word.{WordOver}
use Rattle.word_rows.specs.Words.{length_rows, letter_rows, length_row_lem, word_rows_lem, word_row_lem}

abbrev over : List ℕ → List ℕ → Bool
over lead cycle = ltb 32 (length lead) || ltb 32 (length cycle)

module _ (lead cycle : List ℕ) where
  -- 12
  pub empty-cycle : length cycle ≡ 0 → first_refusal (length_rows lead cycle) ≡ Err NoCycle
  empty-cycle e = unfold length_rows first_refusal in rw (eq-eqb (length cycle) 0 e)

  long : 0 < length cycle → over lead cycle ≡ true → first_refusal (length_rows lead cycle) ≡ Err LongWord
  long h e = unfold length_rows first_refusal in rw (ne_eqb (length cycle) 0 (λ z. omega arith), e)

  -- 13
  pub long-lead : 0 < length cycle → 32 < length lead → first_refusal (length_rows lead cycle) ≡ Err LongWord
  long-lead h l = long h (or_l (ltb 32 (length lead)) (ltb 32 (length cycle)) (lt-ltb 32 (length lead) l))

  pub long-cycle : 0 < length cycle → 32 < length cycle → first_refusal (length_rows lead cycle) ≡ Err LongWord
  long-cycle h l = long h (or_r (ltb 32 (length lead)) (ltb 32 (length cycle)) (lt-ltb 32 (length cycle) l))

  pub lengths-pass : 0 < length cycle → length lead ≤ 32 → length cycle ≤ 32 → first_refusal (length_rows lead cycle) ≡ Ok tt
  unfolding length_rows first_refusal
  lengths-pass h a b = rw (ne_eqb (length cycle) 0 (λ z. omega arith), le-ltb 32 (length lead) a, le-ltb 32 (length cycle) b)

  -- a word that rows 12 and 13 let pass
  pub record Short : Type 0 where
    pub repeats : 0 < length cycle
    pub lead-short : length lead ≤ 32
    pub cycle-short : length cycle ≤ 32

  pub short-of : length_row_lem lead cycle ≡ 0 → Short
  unfolding length_row_lem length_rows
  short-of e =
      let r₁₂ = first-pass (eqb (length cycle) 0) _ _ e in
      let r₁₃ = first-pass (over lead cycle) _ [] r₁₂.1 in
      record {
        repeats = let n = eqb-false (length cycle) 0 r₁₂.0 in omega arith;
        lead-short = ltb-false 32 (length lead) (or-fl (ltb 32 (length lead)) (ltb 32 (length cycle)) r₁₃.0);
        cycle-short = ltb-false 32 (length cycle) (or-fr (ltb 32 (length lead)) (ltb 32 (length cycle)) r₁₃.0);
      }

  -- the same, of what `?` lets pass
  pub short-passed : first_refusal (length_rows lead cycle) ≡ Ok tt → Short
  short-passed e = short-of (unfold length_row_lem in row-passes (length_rows lead cycle) e)

-- rows 12 and 13 have numbers
pub lengths-numbered : (lead cycle : List ℕ) → numbered (length_rows lead cycle) ≡ true
lengths-numbered lead cycle = unfold numbered length_rows in refl

module _ (s : ℕ) (lead cycle : List ℕ) where
  -- rows 12 and 13 come first
  pub word-lengths : (r : Refusal) → first_refusal (length_rows lead cycle) ≡ Err r → first_refusal (word_rows_lem s lead cycle) ≡ Err r
  unfolding word_rows_lem
  word-lengths r e = refusal-left (length_rows lead cycle) (letter_rows s lead cycle) r e

  after : first_refusal (length_rows lead cycle) ≡ Ok tt → first_refusal (word_rows_lem s lead cycle) ≡ first_refusal (letter_rows s lead cycle)
  unfolding word_rows_lem
  after e = refusal-right (length_rows lead cycle) (letter_rows s lead cycle) e

  -- 14
  pub lead-letter : first_refusal (length_rows lead cycle) ≡ Ok tt → any_of lead (λ a. leb s a) ≡ true → first_refusal (word_rows_lem s lead cycle) ≡ Err Letter
  lead-letter e t = unfold letter_rows first_refusal in after e ∙ rw t

  pub cycle-letter : first_refusal (length_rows lead cycle) ≡ Ok tt → any_of cycle (λ a. leb s a) ≡ true → first_refusal (word_rows_lem s lead cycle) ≡ Err Letter
  cycle-letter e t = unfold letter_rows first_refusal in after e ∙ rw (or_r (any_of lead (λ a. leb s a)) (any_of cycle (λ a. leb s a)) t)

  pub word-passes : first_refusal (length_rows lead cycle) ≡ Ok tt → any_of lead (λ a. leb s a) ≡ false → any_of cycle (λ a. leb s a) ≡ false → first_refusal (word_rows_lem s lead cycle) ≡ Ok tt
  word-passes e t v = unfold letter_rows first_refusal in after e ∙ rw (t, v)

  all-below : (xs : List ℕ) → any_of xs (λ a. leb s a) ≡ false → (a : ℕ) → Memᴰ a xs → a < s
  all-below xs e a m = leb-false s a (any_none xs (λ b. leb s b) a e m)

  none_over : (xs : List ℕ) → ((a : ℕ) → Memᴰ a xs → a < s) → any_of xs (λ a. leb s a) ≡ false
  none_over xs h = none_any xs (λ a. leb s a) (λ a m. lt-leb s a (h a m))

  -- a word that passes rows 12 to 14
  pub record PassingWord : Type 0 where
    pub lengths : Short lead cycle
    pub over-letters : WordOver s lead cycle

  pub passing-of : word_row_lem s lead cycle ≡ 0 → PassingWord
  unfolding word_row_lem word_rows_lem length_row_lem letter_rows
  passing-of e =
      let r = first-parts (length_rows lead cycle) _ (lengths-numbered lead cycle) e in
      let l = short-of lead cycle r.0 in
      let low = (first-pass (any_of lead (λ a. leb s a) || any_of cycle (λ a. leb s a)) _ [] r.1).0 in
      let lead_low = all-below lead (or-fl _ (any_of cycle (λ a. leb s a)) low) in
      let cycle-low = all-below cycle (or-fr (any_of lead (λ a. leb s a)) _ low) in
      record { lengths = l; over-letters = record { repeats = l.repeats; lead_letters = lead_low; cycle_letters = cycle-low } }

  -- a word that passes is a word over s letters with at most 32 letters in lead-in and cycle, and conversely
  pub passing-iff : (word_row_lem s lead cycle ≡ 0) ↔ PassingWord
  passing-iff = (
    passing-of,
    λ p. unfold word_row_lem in row-passes (word_rows_lem s lead cycle) (word-passes (lengths-pass lead cycle p.lengths.repeats p.lengths.lead-short p.lengths.cycle-short)
        (none_over lead p.over-letters.lead_letters) (none_over cycle p.over-letters.cycle_letters)),
  )

  -- so it is a word of the theory
  pub word_over : word_row_lem s lead cycle ≡ 0 → WordOver s lead cycle
  word_over e = (passing-of e).over-letters

  -- the same, of what `?` lets pass
  pub passed-over : first_refusal (word_rows_lem s lead cycle) ≡ Ok tt → WordOver s lead cycle
  passed-over e = word_over (unfold word_row_lem in row-passes (word_rows_lem s lead cycle) e)
