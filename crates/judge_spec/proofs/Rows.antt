-- The rows of a call: which part refuses first, and what a call that is served passes.
use mathlib.Core.Path.{◌≡◌, refl, sym, ◌∙◌}
use mathlib.Core.Bool.{true}
use mathlib.Core.List.{List, []}
use Prim.Native.Nat.{ℕ, ◌≤◌, ◌<◌}
use lib.Dec.{ltb}
use borrow.Author.Tests.{lt-ltb, le-ltb, ltb-false}
use Rattle.std.specs.Prelude.{Ok, Err}
use Rattle.refusals.specs.Rows.{first_refusal}
use Rattle.refusals.specs.declared.Refusal.{Refusal}
use Rattle.refusals.specs.declared.Refusal.TheVariants.{Slice}
use Rattle.refusals.proofs.Rows.{numbered, first-left, first-right, first-parts, first-pass, refusal-left, refusal-right, refusal-passes, row-passes}
use Rattle.theory.specs.Rule.{Rule}
use Rattle.theory.specs.Word.{places}
use Rattle.file_spec.specs.File.{rule_in}
use Rattle.file_spec.specs.Rows.{file_rows_lem, file_row}
use Rattle.file_read.proofs.FileRows.{file-numbered}
use Rattle.word_rows.specs.Words.{length_rows, letter_rows, word_rows_lem, word_row_lem}
use Rattle.judge_spec.specs.Judge.{slice_rows, judge_call_rows, judge_call_row, judge_rows, judge_row}

module _ (r : Rule) (lead cycle : List ℕ) (m : ℕ) where
  pub rows-numbered : numbered (word_rows_lem r.s lead cycle) ≡ true
  unfolding numbered word_rows_lem length_rows letter_rows
  rows-numbered = refl

  -- rows 12 to 14
  pub word-refuses : (k : Refusal) → first_refusal (word_rows_lem r.s lead cycle) ≡ Err k → first_refusal (judge_call_rows r lead cycle m) ≡ Err k
  word-refuses k e = refusal-left (word_rows_lem r.s lead cycle) (slice_rows lead cycle m) k e

  -- row 16
  pub slice-refuses : first_refusal (word_rows_lem r.s lead cycle) ≡ Ok tt → m < places lead cycle → first_refusal (judge_call_rows r lead cycle m) ≡ Err Slice
  unfolding slice_rows first_refusal
  slice-refuses e l = refusal-right (word_rows_lem r.s lead cycle) (slice_rows lead cycle m) e ∙ rw (lt-ltb m (places lead cycle) l)

  pub call-served : first_refusal (word_rows_lem r.s lead cycle) ≡ Ok tt → places lead cycle ≤ m → first_refusal (judge_call_rows r lead cycle m) ≡ Ok tt
  unfolding slice_rows first_refusal
  call-served e l = refusal-right (word_rows_lem r.s lead cycle) (slice_rows lead cycle m) e ∙ rw (le-ltb m (places lead cycle) l)

  -- the same by their numbers
  pub row-word : (k : ℕ) → (k ≡ 0 → ⊥) → k ≡ word_row_lem r.s lead cycle → k ≡ judge_call_row r lead cycle m
  unfolding judge_call_row word_row_lem
  row-word k n e = first-left (word_rows_lem r.s lead cycle) (slice_rows lead cycle m) k n e

  pub row-served : word_row_lem r.s lead cycle ≡ 0 → places lead cycle ≤ m → judge_call_row r lead cycle m ≡ 0
  unfolding judge_call_row word_row_lem
  row-served e l = row-passes (judge_call_rows r lead cycle m) (call-served (refusal-passes (word_rows_lem r.s lead cycle) e) l)

  pub record Passes : Type 0 where
    pub word : word_row_lem r.s lead cycle ≡ 0
    pub room : places lead cycle ≤ m

  pub call_passes : judge_call_row r lead cycle m ≡ 0 → Passes
  unfolding judge_call_row word_row_lem word_rows_lem slice_rows
  call_passes e =
      let p = first-parts (word_rows_lem r.s lead cycle) (slice_rows lead cycle m) rows-numbered e in
      record { word = p.0; room = ltb-false m (places lead cycle) (first-pass (ltb m (places lead cycle)) _ [] p.1).0 }

module _ (f lead cycle : List ℕ) (m : ℕ) where
  -- the rows of the rule
  pub file-refuses : (k : Refusal) → first_refusal (file_rows_lem f) ≡ Err k → first_refusal (judge_rows f lead cycle m) ≡ Err k
  file-refuses k e = refusal-left (file_rows_lem f) _ k e

  pub file-passes : file_row f ≡ 0 → first_refusal (judge_rows f lead cycle m) ≡ first_refusal (judge_call_rows (rule_in f) lead cycle m)
  unfolding file_row
  file-passes e = refusal-right (file_rows_lem f) _ (refusal-passes (file_rows_lem f) e)

  pub row-passed : file_row f ≡ 0 → judge_row f lead cycle m ≡ judge_call_row (rule_in f) lead cycle m
  unfolding judge_row judge_call_row file_row
  row-passed e = first-right (file_rows_lem f) _ (file-numbered f) e
