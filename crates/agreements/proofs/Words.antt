-- The judge that shows the choice, the judge of a sheet and the judge on a table.
use Prim.Native.Nat.{ℕ, suc}
use mathlib.Core.Path.{◌≡◌, sym, ◌∙◌}
use mathlib.Core.List.{List, ◌++◌}
use native.Mathlib.Omega.{arith}
use lib.ListN.{length}
use Rattle.std.specs.Prelude.{Bool, Result, Err, Option}
use Rattle.refusals.specs.declared.Refusal.{Refusal}
use Rattle.refusals.specs.Rows.{Check}
use Rattle.theory.specs.Rule.{Rule}
use Rattle.theory.specs.Macrostate.{holds_initial}
use Rattle.theory.specs.Truth.{truth_masks}
use Rattle.word_rows.specs.Words.{word_rows_lem}
use Rattle.judge_spec.specs.Judge.{slice_rows, verdict, holds_start, after, Meant}
use Rattle.judge_choices_spec.specs.ChoicesComputed.{choices_of}
use Rattle.judge_choices_spec.specs.Choice.{Written}
use Rattle.judge_choices.specs.Judge.{choice_rows, choices_rows, choices_row, JudgedChoices}
use Rattle.sheet_spec.specs.Words.{words_of}
use Rattle.sheet_spec.specs.Sheet.{sheet_rows, sheet_call_rows, sheet_row}
use Rattle.sheet_spec.specs.Judged.{SheetServed, SheetJudged}
use Rattle.sheet_spec.specs.declared.Totals.{Totals}
use Rattle.table_lent.specs.Lent.{Lent}
use Rattle.table_call.specs.Starts.{Begins}
use Rattle.table_call.specs.Calls.{call_rows, Answered, scratch_after_lem}
use Rattle.table_judge.specs.Tables.{judge_table_rows, judge_table_row, JudgedTable}
use Rattle.agreements.proofs.Verdicts.{refusal_by, by_row, SameVerdicts, same-verdicts}

-- no row is both
never : {A : Type 0} (k : ℕ) → suc k ≡ 0 → A
never k e = absurd (omega arith)

module _ (lead cycle masks masks' choices choices' : List ℕ) (v : Result Bool Refusal) where
  abbrev choices_rest : Rule → List Check
  choices_rest r = word_rows_lem r.s lead cycle ++ (slice_rows lead cycle (length masks) ++ choice_rows r lead cycle (length choices))

  abbrev ChoicesBy : ℕ → Rule → Type 0
  ChoicesBy k r =
      (v ≡ verdict (refusal_by k) (holds_start r lead cycle)) × (masks' ≡ after k (truth_masks r lead cycle) masks) × (choices' ≡ after k (choices_of r lead cycle) choices)
      × (k ≡ 0 → Meant r lead cycle masks' v) × (k ≡ 0 → Written r lead cycle choices')

  pub choices-same : SameVerdicts (λ f. JudgedChoices f lead cycle masks masks' choices choices' v) choices_rest ChoicesBy
  unfolding choices_row after
  choices-same =
      same-verdicts
      (λ k r t h. (h.0, h.1, h.2, never k, never k))
      (λ f. let b = by_row (choices_rows f lead cycle (length masks) (length choices)) in (
        λ J. (rw b at J.answer, J.masks_written, J.choices_written, J.meant, J.chosen),
        λ h. record { answer = rw b h.0; masks_written = h.1; choices_written = h.2; meant = h.3; chosen = h.4 },
      ))

module _ (sheet answers masks answers' masks' : List ℕ) (v : Result Totals Refusal) where
  abbrev sheet_rest : Rule → List Check
  sheet_rest r = sheet_rows sheet (length answers) (length masks)

  abbrev SheetBy : ℕ → Rule → Type 0
  SheetBy k r =
      (k ≡ 0 → SheetServed r (words_of sheet) answers masks answers' masks' v)
      × ((j : Refusal) → refusal_by k ≡ Err j → (v ≡ Err j) × (answers' ≡ answers) × (masks' ≡ masks))

  pub sheet-same : SameVerdicts (λ f. SheetJudged f sheet answers masks answers' masks' v) sheet_rest SheetBy
  unfolding sheet_row
  sheet-same =
      same-verdicts
      (λ k r t h. (never k, h.1))
      (λ f. let b = by_row (sheet_call_rows f sheet (length answers) (length masks)) in
      (λ J. (J.served, λ j e. J.refused j (b ∙ e)), λ h. record { served = h.0; refused = λ j e. h.1 j (sym b ∙ e) }))

module _ (lead cycle : List ℕ) (codes transitions : Lent) (old new : List ℕ) (a : Result (Option ℕ) Refusal) where
  abbrev table_rest : Rule → List Check
  table_rest r = call_rows r.s lead cycle codes transitions (length old)

  abbrev TableBy : ℕ → Rule → Type 0
  TableBy k r = Answered (refusal_by k) (Begins (holds_initial r) codes.numbers transitions.numbers lead cycle) a × (new ≡ scratch_after_lem k old)

  pub table_same : SameVerdicts (λ f. JudgedTable f lead cycle codes transitions old new a) table_rest TableBy
  unfolding judge_table_row
  table_same =
      same-verdicts
      (λ k r t h. h)
      (λ f. let b = by_row (judge_table_rows f lead cycle codes transitions (length old)) in (λ J. (rw b at J.answer, J.scratch), λ h. record { answer = rw b h.0; scratch = h.1 }))
