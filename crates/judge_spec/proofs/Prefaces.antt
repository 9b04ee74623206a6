-- A preface whose names are not refused has no effect on the judge's answer and masks, and the reader of 01 leads to the same ones.
use Prim.Native.Nat.{ℕ, zero, suc}
use mathlib.Core.Path.{◌≡◌, refl, ap}
use mathlib.Core.List.{List, ◌++◌}
use lib.ListN.{length}
use mathlib.Core.Bool.{Bool, true}
use native.Mathlib.Omega.{arith}
use Rattle.std.specs.Prelude.{Result, Ok, Err, ⊤}
use Rattle.refusals.specs.Rows.{Check, first_refusal, first_row}
use Rattle.refusals.specs.declared.Refusal.{Refusal}
use Rattle.refusals.proofs.Rows.{refusal-same, row-passes}
use Rattle.theory.specs.Rule.{Rule}
use Rattle.theory.specs.Truth.{truth_masks}
use Rattle.file_spec.specs.File.{rule_in}
use Rattle.file_spec.specs.Rows.{preface_row_lem, file_row, old_rows}
use Rattle.file_read.proofs.Prefaces.{first-after, answer-after, old-first, old-answer}
use Rattle.word_rows.specs.Words.{word_rows_lem}
use Rattle.judge_spec.specs.Judge.{slice_rows, judge_call_rows, judge_rows, judge_row, verdict, holds_start, judge_of, after}

-- what counts of a verdict once no row refuses
abbrev taken : ℕ → Bool → Bool
taken zero b = b
taken (suc k) b = true

same-taken : (k j : ℕ) (a b : Bool) → k ≡ j → j ≡ 0 → taken k a ≡ taken j b → a ≡ b
same-taken zero zero a b e z t = t
same-taken zero (suc j) a b e z t = absurd (omega arith)
same-taken (suc k) j a b e z t = absurd (omega arith)

verdict-by : (r : Result ⊤ Refusal) (a b : Bool) → (r ≡ Ok tt → a ≡ b) → verdict r a ≡ verdict r b
verdict-by (Ok t) a b h = ap (λ (x : Bool). verdict (Ok t) x) (h refl)
verdict-by (Err r) a b h = refl

-- verdicts by the same row are the same
verdict-same : (xs ys : List Check) (a b : Bool) → first_row xs ≡ first_row ys → taken (first_row xs) a ≡ taken (first_row ys) b
    → verdict (first_refusal xs) a ≡ verdict (first_refusal ys) b
verdict-same xs ys a b e t =
    rw (refusal-same xs ys e) (verdict-by (first_refusal ys) a b (λ z. same-taken (first_row xs) (first_row ys) a b e (row-passes ys z) t))

module _ (p f lead cycle : List ℕ) (n₁ : file_row f ≡ 1 → ⊥) (n₇ : file_row f ≡ 7 → ⊥) (u : preface_row_lem f ≡ 0) (v : preface_row_lem (p ++ f) ≡ 0) where
  pub judge-row-after : (m : ℕ) → judge_row (p ++ f) lead cycle m ≡ judge_row f lead cycle m
  unfolding judge_row
  judge-row-after m = first-after (λ r. word_rows_lem r.s lead cycle ++ slice_rows lead cycle m) p f n₁ n₇ u v

  pub judge-after : (m : ℕ) → judge_of (p ++ f) lead cycle m ≡ judge_of f lead cycle m
  unfolding judge_of judge_row
  judge-after m =
      let rest = λ (r : Rule). word_rows_lem r.s lead cycle ++ slice_rows lead cycle m in
      verdict-same (judge_rows (p ++ f) lead cycle m) (judge_rows f lead cycle m) _ _ (judge-row-after m)
      (answer-after rest (λ k r. taken k (holds_start r lead cycle)) (λ k r t. refl) p f n₁ n₇ u v)

  pub masks-after : (old : List ℕ) → after (judge_row (p ++ f) lead cycle (length old)) (truth_masks (rule_in (p ++ f)) lead cycle) old
      ≡ after (judge_row f lead cycle (length old)) (truth_masks (rule_in f) lead cycle) old
  unfolding after judge_row
  masks-after old = answer-after (λ r. word_rows_lem r.s lead cycle ++ slice_rows lead cycle (length old)) (λ k r. after k (truth_masks r lead cycle) old) (λ k r t. refl) p f n₁ n₇ u v

-- 02: "On a file that the new readers accept, both must reach equal verdicts."
module _ (f lead cycle : List ℕ) (e : file_row f ≡ 0) where
  -- the first row that refuses, by the reader of 01
  abbrev pub old_judge_row : ℕ → ℕ
  old_judge_row m = first_row (old_rows f ++ (word_rows_lem (rule_in f).s lead cycle ++ slice_rows lead cycle m))

  pub old-judge : (m : ℕ) → verdict (first_refusal (old_rows f ++ judge_call_rows (rule_in f) lead cycle m)) (holds_start (rule_in f) lead cycle) ≡ judge_of f lead cycle m
  unfolding judge_of judge_row
  old-judge m =
      let rest = λ (r : Rule). word_rows_lem r.s lead cycle ++ slice_rows lead cycle m in
      let same = old-first rest f e in
      verdict-same (old_rows f ++ judge_call_rows (rule_in f) lead cycle m) (judge_rows f lead cycle m) _ _ same (ap (λ (k : ℕ). taken k (holds_start (rule_in f) lead cycle)) same)

  pub old-masks : (old : List ℕ) → after (old_judge_row (length old)) (truth_masks (rule_in f) lead cycle) old
      ≡ after (judge_row f lead cycle (length old)) (truth_masks (rule_in f) lead cycle) old
  unfolding judge_row
  old-masks old = old-answer (λ r. word_rows_lem r.s lead cycle ++ slice_rows lead cycle (length old)) (λ k r. after k (truth_masks r lead cycle) old) f e
