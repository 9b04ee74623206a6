-- The tidy tool, which tries no row 20 and writes the names again, and the report of a mixed loop, which tries neither 11 nor 21 to 23.
use Prim.Native.Nat.{ℕ, suc}
use mathlib.Core.Path.{◌≡◌, refl, ap, ap₂, sym, ◌∙◌}
use mathlib.Core.Bool.{true}
use mathlib.Core.List.{List, ◌++◌, append_assoc}
use mathlib.Core.Logic.{◌↔◌, by_cases}
use native.Mathlib.Omega.{arith}
use native.Mathlib.Decide.{ℕ_discrete}
use lib.ListN.{length, take}
use Rattle.std.specs.Prelude.{Result, Ok, Option}
use Rattle.std.specs.Result.{result_and}
use Rattle.refusals.specs.declared.Refusal.{Refusal}
use Rattle.refusals.specs.Rows.{Check, first_row}
use Rattle.refusals.proofs.Rows.{numbered, first-left, first-right}
use Rattle.theory.specs.Rule.{Rule}
use Rattle.file_spec.specs.File.{NamedRule, trailer, part_before_lem, names_of, rule_in, named_in, body_of}
use Rattle.file_spec.specs.Names.{preface_from}
use Rattle.file_spec.specs.Rows.{trailer_rows, layout_rows, name_rows, preface_rows, preface_row_lem, file_row, old_rows, old_row}
use Rattle.file_spec.specs.RuleRows.{number_rows, list_rows, component_rows}
use Rattle.file_read.proofs.FileRows.{layout-numbered, old-numbered, accepted-rows}
use Rattle.file_read.proofs.Prefaces.{layout-after, laid-after, old-after}
use Rattle.rule_tidy_spec.specs.Tidy.{tidy_rule_lem}
use Rattle.file_write_spec.specs.Written.{slice_rows, after}
use Rattle.file_tidy_spec.specs.Tidied.{tidy_rows, call_rows, tidy_row, tidied_of, slice_tidied}
use Rattle.file_tidy_spec.proofs.Laws.{tidy-laid}
use Rattle.loop_spec.specs.Loops.{Reported}
use Rattle.loop_spec.specs.Search.{loop_of}
use Rattle.loop_spec.specs.Reported as report
use Rattle.agreements.proofs.Verdicts.{refusal_by, by_row, both-alike}

-- ---- the tidy tool

tidy-numbered : (f : List ℕ) → numbered (tidy_rows f) ≡ true
unfolding numbered tidy_rows layout_rows trailer_rows number_rows list_rows component_rows preface_rows name_rows
tidy-numbered f = refl

-- where no name is refused, its rows are those of the reader of 01
tidy-old : (f : List ℕ) → preface_row_lem f ≡ 0 → first_row (tidy_rows f) ≡ old_row f
unfolding tidy_rows old_row old_rows preface_row_lem
tidy-old f u =
    let parts = ap first_row (sym (append_assoc (layout_rows f) (component_rows (rule_in f)) (preface_rows (trailer f 1) (part_before_lem f)))) in
    by_cases (ℕ_discrete (old_row f) 0)
    (λ e. parts ∙ first-right (old_rows f) (preface_rows (trailer f 1) (part_before_lem f)) (old-numbered f) e ∙ u ∙ sym e)
    (λ n. parts ∙ sym (first-left (old_rows f) (preface_rows (trailer f 1) (part_before_lem f)) (old_row f) n refl))

module _ (old new : List ℕ) (a : Result ℕ Refusal) where
  abbrev Tidies : List ℕ → Type 0
  Tidies f = (a ≡ tidied_of f (length old)) × (new ≡ slice_tidied f old)

  -- its file
  abbrev tidy_of_lem : NamedRule → List ℕ
  tidy_of_lem r = preface_from r.names ++ body_of (tidy_rule_lem r.rule)

  abbrev tidy_rest : NamedRule → List Check
  tidy_rest r = slice_rows (length old) (tidy_of_lem r)

  abbrev TidiesBy : ℕ → NamedRule → Type 0
  TidiesBy k r = (a ≡ result_and (refusal_by k) (Ok (length (tidy_of_lem r)))) × (new ≡ after k (tidy_of_lem r) old)

  tidy-alone : (k : ℕ) (r t : NamedRule) → TidiesBy (suc k) r → TidiesBy (suc k) t
  unfolding after
  tidy-alone k r t h = h

  tidy-by : (f : List ℕ) → Tidies f ↔ TidiesBy (first_row (tidy_rows f ++ tidy_rest (named_in f))) (named_in f)
  unfolding tidied_of slice_tidied tidy_row
  tidy-by f = let b = by_row (call_rows f (length old)) in (λ h. (rw b at h.0, h.1), λ h. (rw b h.0, h.1))

  -- bytes that leave the names as they are bring no other verdict
  pub tidy-preface : (p f : List ℕ) → (first_row (tidy_rows f) ≡ 1 → ⊥) → (first_row (tidy_rows f) ≡ 7 → ⊥) → preface_row_lem f ≡ 0 → preface_row_lem (p ++ f) ≡ 0 → names_of (p ++ f) ≡ names_of f
      → Tidies (p ++ f) ↔ Tidies f
  tidy-preface p f n₁ n₇ u v names =
      let o = tidy-old f u in
      let rows : first_row (tidy_rows (p ++ f)) ≡ first_row (tidy_rows f) = tidy-old (p ++ f) v ∙ old-after p f (λ z. n₁ (o ∙ z)) (λ z. n₇ (o ∙ z)) ∙ sym o in
      let read : first_row (tidy_rows f) ≡ 0 → named_in (p ++ f) ≡ named_in f
      = λ e. ap₂ (λ (r : Rule) (l : List ℕ). record { rule = r; names = l }) (laid-after p f (tidy-laid f e)) names in
      let h = both-alike tidy_rest (tidy_rows (p ++ f)) (tidy_rows f) (tidy-numbered (p ++ f)) (tidy-numbered f) (named_in (p ++ f)) (named_in f) rows read TidiesBy tidy-alone in
      (λ x. (tidy-by f).1 (h.0 ((tidy-by (p ++ f)).0 x)), λ x. (tidy-by (p ++ f)).1 (h.1 ((tidy-by f).0 x)))

  -- on a file that the new readers accept, the reader of 01 leads to the same
  pub tidy-in-the-field : (f : List ℕ) → file_row f ≡ 0 → TidiesBy (first_row (old_rows f ++ tidy_rest (named_in f))) (named_in f) ↔ Tidies f
  unfolding old_row
  tidy-in-the-field f e =
      let o : first_row (old_rows f) ≡ first_row (tidy_rows f) = sym (tidy-old f (accepted-rows f e).1) in
      let h = both-alike tidy_rest (old_rows f) (tidy_rows f) (old-numbered f) (tidy-numbered f) (named_in f) (named_in f) o (λ z. refl) TidiesBy tidy-alone in
      (λ x. (tidy-by f).1 (h.0 x), λ x. h.1 ((tidy-by f).0 x))

-- ---- the report of a mixed loop

module _ (old new : List ℕ) (a : Result (Option ℕ) Refusal) where
  -- what its contract says
  abbrev Reports : List ℕ → Type 0
  Reports f =
      (a ≡ report.report_of f (length old)) × (new ≡ report.slice_after f old)
      × (report.report_row f (length old) ≡ 0 → Reported (rule_in f) (take (report.told a) new))

  abbrev report_rest : Rule → List Check
  report_rest r = report.formed_rows r (length old)

  abbrev ReportsBy : ℕ → Rule → Type 0
  ReportsBy k r = (a ≡ report.answer k (loop_of r)) × (new ≡ report.after k (loop_of r) old) × (k ≡ 0 → Reported r (take (report.told a) new))

  report-alone : (k : ℕ) (r t : Rule) → ReportsBy (suc k) r → ReportsBy (suc k) t
  unfolding report.answer report.after
  report-alone k r t h = (h.0, h.1, λ e. absurd (omega arith))

  report-by : (f : List ℕ) → Reports f ↔ ReportsBy (first_row (layout_rows f ++ report_rest (rule_in f))) (rule_in f)
  unfolding report.report_of report.slice_after report.report_row
  report-by f = (λ h. h, λ h. h)

  -- any bytes at all: "21 to 23 do not apply to it". So it goes by no row that the reader of 01 lacks but 20.
  pub report-preface : (p f : List ℕ) → (first_row (layout_rows f) ≡ 1 → ⊥) → (first_row (layout_rows f) ≡ 7 → ⊥) → Reports (p ++ f) ↔ Reports f
  report-preface p f n₁ n₇ =
      let rows = layout-after p f n₁ n₇ in
      let h = both-alike report_rest (layout_rows (p ++ f)) (layout_rows f) (layout-numbered (p ++ f)) (layout-numbered f)
      (rule_in (p ++ f)) (rule_in f) rows (laid-after p f) ReportsBy report-alone in
      (λ x. (report-by f).1 (h.0 ((report-by (p ++ f)).0 x)), λ x. (report-by (p ++ f)).1 (h.1 ((report-by f).0 x)))
