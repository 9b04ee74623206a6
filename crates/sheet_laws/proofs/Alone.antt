-- Each word is answered as if it were judged alone.
use mathlib.Core.Path.{◌≡◌, refl, sym, ◌∙◌, ap}
use mathlib.Core.Logic.{⊎_elim}
use mathlib.Core.Bool.{Bool, true, false, ◌||◌}
use mathlib.Core.List.{List, [], ◌++◌}
use Prim.Native.Nat.{ℕ, zero, suc, ◌+◌, ◌-◌, ◌≤◌, ◌<◌}
use native.Mathlib.Omega.{arith}
use lib.Dec.{eqb, ltb}
use lib.ListN.{length, take, drop, replicate, length-take, length-drop}
use borrow.Author.Tests.{eqb-false, ltb-false, le-ltb}
use Rattle.refusals.specs.Rows.{Check, first_row}
use Rattle.sets.specs.Tests.{one}
use Rattle.sets.proofs.Bools.{or-fl, or-fr}
use Rattle.refusals.proofs.Rows.{first-pass, first-parts, numbered}
use Rattle.theory.specs.Rule.{Rule}
use Rattle.theory.specs.Truth.{truth_masks}
use Rattle.theory.specs.Word.{places, WordOver}
use Rattle.theory_laws.proofs.Truth.{truth-length}
use Rattle.file_spec.specs.File.{rule_in}
use Rattle.file_spec.specs.Rows.{file_row}
use Rattle.word_rows.specs.Words.{length_rows, letter_rows, word_rows_lem, word_row_lem}
use Rattle.word_rows.proofs.Checks.{word_over}
use Rattle.judge_spec.specs.Judge.{judge_rows, judge_row, judge_of, holds_start, verdict, after}
use Rattle.judge_spec.proofs.Rows.{row-word, row-served, row-passed}
use Rattle.std.specs.Prelude.{Result, Ok, Err, ⊤}
use Rattle.refusals.specs.Rows.{number_of, row_of, first_refusal}
use Rattle.refusals.specs.declared.Refusal.{Refusal}
use Rattle.refusals.proofs.Rows.{number-above, row-refusal}
use Rattle.sheet_spec.specs.Words.{SheetWord, spelled, lead_of, cycle_of, length_faults, fault_of}
use Rattle.sheet_spec.specs.Sheet.{byte_of}
use Rattle.sheet_spec.specs.Computed.{answer_by, answer_of, masks_by, masks_of_lem, Alone}
use Rattle.sheet_laws.proofs.Distinct.{zero-or-suc}

module _ (a b : ℕ) (t : List ℕ) (whole : length t ≡ a + b) where
  pub lead-size : length (take a t) ≡ a
  lead-size = simp length-take (omega arith)

  pub cycle-size : length (drop a t) ≡ b
  cycle-size = simp length-drop (omega arith)

  -- a word that is all there has the number that the judge of single words gives it
  same-lengths : length_faults a b t ≡ length_rows (take a t) (drop a t)
  unfolding length_faults length_rows
  same-lengths = rw (lead-size, cycle-size, le-ltb (length t) (a + b) (omega arith))

  pub fault-alone : (s : ℕ) → fault_of s (spelled a b t) ≡ word_row_lem s (take a t) (drop a t)
  unfolding fault_of word_row_lem word_rows_lem
  fault-alone s = ap (λ (cs : List Check). first_row (cs ++ letter_rows s (take a t) (drop a t))) same-lengths

-- ---- a word that is not faulty

faults-numbered : (a b : ℕ) (t : List ℕ) → numbered (length_faults a b t) ≡ true
unfolding numbered length_faults
faults-numbered a b t = refl

-- is all there, within the limits and over the rule's letters
pub record Sound (s a b : ℕ) (t : List ℕ) : Type 0 where
  pub whole : length t ≡ a + b
  pub repeats : 0 < b
  pub lead-short : a ≤ 32
  pub cycle-short : b ≤ 32
  pub row : word_row_lem s (take a t) (drop a t) ≡ 0
  pub word : WordOver s (take a t) (drop a t)

pub sound : (s a b : ℕ) (t : List ℕ) → length t ≤ a + b → fault_of s (spelled a b t) ≡ 0 → Sound s a b t
unfolding fault_of length_faults
sound s a b t most e =
    let p = first-parts (length_faults a b t) (letter_rows s (take a t) (drop a t)) (faults-numbered a b t) e in
    let x = first-pass (eqb b 0) _ _ p.0 in
    let y = first-pass (ltb (length t) (a + b) || (ltb 32 a || ltb 32 b)) _ [] x.1 in let n = eqb-false b 0 x.0 in
    let there = ltb-false (length t) (a + b) (or-fl (ltb (length t) (a + b)) (ltb 32 a || ltb 32 b) y.0) in
    let short = or-fr (ltb (length t) (a + b)) (ltb 32 a || ltb 32 b) y.0 in
    let whole : length t ≡ a + b = omega arith in
    let row = sym (fault-alone a b t whole s) ∙ e in
    record {
      whole = whole;
      repeats = omega arith;
      lead-short = ltb-false 32 a (or-fl (ltb 32 a) (ltb 32 b) short);
      cycle-short = ltb-false 32 b (or-fr (ltb 32 a) (ltb 32 b) short);
      row = row;
      word = word_over s (take a t) (drop a t) row;
    }

-- ---- the answer byte and the mask bytes are the judge's, on a slice of 64 zeros

-- n zeros
abbrev zeros : ℕ → List ℕ
zeros n = replicate n 0

drop-zeros : (k n : ℕ) → drop k (zeros n) ≡ zeros (n - k)
drop-zeros zero n = let e : n - 0 ≡ n = omega arith in ap zeros (sym e)
drop-zeros (suc k) zero = let e : 0 - suc k ≡ 0 = omega arith in sym (ap zeros e)
drop-zeros (suc k) (suc n) = let e : suc n - suc k ≡ n - k = omega arith in drop-zeros k n ∙ sym (ap zeros e)

pub verdict-byte : (b : Bool) → one b ≡ byte_of (Ok b)
verdict-byte true = refl
verdict-byte false = refl

answer-number : (r : Rule) (k : ℕ) (w : SheetWord) → 0 < k → answer_by r k w ≡ k
answer-number r zero w l = absurd (omega arith)
answer-number r (suc k) w l = refl

answer-by : (r : Rule) (refusal : Result ⊤ Refusal) (w : SheetWord) → answer_by r (row_of refusal) w ≡ byte_of (verdict refusal (holds_start r (lead_of w) (cycle_of w)))
answer-by r (Ok t) w = verdict-byte (holds_start r (lead_of w) (cycle_of w))
answer-by r (Err k) w = answer-number r (number_of k) w (number-above k)

masks-by : (r : Rule) (n k : ℕ) (w : SheetWord) → n ≡ 64 → masks_by r k w ≡ after k (truth_masks r (lead_of w) (cycle_of w)) (zeros n)
unfolding after
masks-by r n zero w e =
    let t = truth-length r (lead_of w) (cycle_of w) in
    ap (λ (l : List ℕ). truth_masks r (lead_of w) (cycle_of w) ++ l) (ap (λ (x : ℕ). zeros (x - places (lead_of w) (cycle_of w))) (sym e)
    ∙ ap (λ (x : ℕ). zeros (n - x)) (sym t) ∙ sym (drop-zeros (length (truth_masks r (lead_of w) (cycle_of w))) n))
masks-by r n (suc k) w e = ap zeros (sym e)

module _ (f : List ℕ) (accepted : file_row f ≡ 0) (a b : ℕ) (t : List ℕ) (whole : length t ≡ a + b) where
  -- the judge's row is the word's own number
  judge-row : judge_row f (take a t) (drop a t) 64 ≡ fault_of (rule_in f).s (spelled a b t)
  judge-row =
      row-passed f (take a t) (drop a t) 64 accepted
      ∙ ⊎_elim
      (λ e. row-served (rule_in f) (take a t) (drop a t) 64 (sym alone ∙ e) (small e) ∙ sym e)
      (λ k. sym (row-word (rule_in f) (take a t) (drop a t) 64 (fault_of (rule_in f).s (spelled a b t)) (λ z. let x : suc k.0 ≡ 0 = sym k.1 ∙ z in omega arith) alone))
      (zero-or-suc (fault_of (rule_in f).s (spelled a b t)))
    where
      alone : fault_of (rule_in f).s (spelled a b t) ≡ word_row_lem (rule_in f).s (take a t) (drop a t)
      alone = fault-alone a b t whole (rule_in f).s

      small : fault_of (rule_in f).s (spelled a b t) ≡ 0 → places (take a t) (drop a t) ≤ 64
      small e =
          let s = sound (rule_in f).s a b t (omega arith) e in
          omega (arith, s.lead-short, s.cycle-short, lead-size a b t whole, cycle-size a b t whole)

  answer-alone : answer_of (rule_in f) (spelled a b t) ≡ byte_of (judge_of f (take a t) (drop a t) 64)
  unfolding answer_of judge_of judge_row lead_of cycle_of
  answer-alone =
      let rows = judge_rows f (take a t) (drop a t) 64 in
      ap (λ (k : ℕ). answer_by (rule_in f) k (spelled a b t)) (sym judge-row ∙ sym (row-refusal rows))
      ∙ answer-by (rule_in f) (first_refusal rows) (spelled a b t)

  masks-alone : masks_of_lem (rule_in f) (spelled a b t) ≡ after (judge_row f (take a t) (drop a t) 64) (truth_masks (rule_in f) (take a t) (drop a t)) (replicate 64 0)
  unfolding masks_of_lem after lead_of cycle_of
  masks-alone =
      masks-by (rule_in f) 64 (fault_of (rule_in f).s (spelled a b t)) (spelled a b t) refl
      ∙ ap (λ (k : ℕ). after k (truth_masks (rule_in f) (take a t) (drop a t)) (zeros 64)) (sym judge-row)

  pub alone : Alone f a b t
  alone = record { answer = answer-alone; masks = masks-alone }
