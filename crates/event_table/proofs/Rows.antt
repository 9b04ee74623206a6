-- The rows of a call: which refuses first, and what a call that is served passes.
use mathlib.Core.Path.{◌≡◌, refl, sym}
use mathlib.Core.Bool.{true, false}
use mathlib.Core.List.{List, [], ◌++◌}
use Prim.Native.Nat.{ℕ, zero, suc, ◌≤◌, ◌<◌}
use lib.Dec.{ltb}
use lib.ListN.{length, drop}
use borrow.Author.Tests.{lt-ltb, le-ltb, ltb-false}
use Rattle.refusals.specs.Rows.{first_refusal}
use Rattle.refusals.proofs.Rows.{first-right, first-pass, row-passes, refused-suc, refusal-passes, refusal-left, refusal-right}
use Rattle.file_spec.specs.File.{rule_in}
use Rattle.file_spec.specs.Rows.{file_rows_lem, file_row}
use Rattle.file_read.proofs.FileRows.{file-numbered}
use Rattle.std.specs.Prelude.{Result, Ok, Err}
use Rattle.refusals.specs.declared.Refusal.{Refusal}
use Rattle.refusals.specs.declared.Refusal.TheVariants.{EventLine, CoveredLine, NoLine, Slice}
use Rattle.event_spec.specs.Events.{event_count, letters_of}
use Rattle.event_spec.specs.Translation.{faulty_table, has_covered_lem, has_unknown_lem, translation_rows, translation_row, translate_rows, translate_row, translated_of, filled, letters_after_lem, Called}

module _ (s : ℕ) (t log : List ℕ) (m : ℕ) where
  -- 25
  pub table-refuses : faulty_table s t ≡ true → first_refusal (translation_rows s t log m) ≡ Err EventLine
  table-refuses e = unfold translation_rows first_refusal in rw e

  -- 26
  pub cover-refuses : faulty_table s t ≡ false → has_covered_lem t ≡ true → first_refusal (translation_rows s t log m) ≡ Err CoveredLine
  cover-refuses e c = unfold translation_rows first_refusal in rw (e, c)

  -- 27
  pub log-refuses : faulty_table s t ≡ false → has_covered_lem t ≡ false → has_unknown_lem t log ≡ true → first_refusal (translation_rows s t log m) ≡ Err NoLine
  log-refuses e c u = unfold translation_rows first_refusal in rw (e, c, u)

  -- 16
  pub slice-refuses : faulty_table s t ≡ false → has_covered_lem t ≡ false → has_unknown_lem t log ≡ false → m < event_count log → first_refusal (translation_rows s t log m) ≡ Err Slice
  slice-refuses e c u l = unfold translation_rows first_refusal in rw (e, c, u, lt-ltb m (event_count log) l)

  pub call-served : faulty_table s t ≡ false → has_covered_lem t ≡ false → has_unknown_lem t log ≡ false → event_count log ≤ m → first_refusal (translation_rows s t log m) ≡ Ok tt
  call-served e c u l = unfold translation_rows first_refusal in rw (e, c, u, le-ltb m (event_count log) l)

  -- what a call passes that is served
  pub record Passes : Type 0 where
    pub table : faulty_table s t ≡ false
    pub lines : has_covered_lem t ≡ false
    pub events : has_unknown_lem t log ≡ false
    pub room : event_count log ≤ m

  pub call_passes : translation_row s t log m ≡ 0 → Passes
  unfolding translation_row translation_rows
  call_passes e =
      let a = first-pass (faulty_table s t) _ _ e in
      let b = first-pass (has_covered_lem t) _ _ a.1 in
      let c = first-pass (has_unknown_lem t log) _ _ b.1 in
      let d = first-pass (ltb m (event_count log)) _ [] c.1 in
      record { table = a.0; lines = b.0; events = c.0; room = ltb-false m (event_count log) d.0 }

-- ---- a rule over s letters that is read

module _ (s : ℕ) (t log old : List ℕ) where
  pub called-refused : (r : Refusal) → first_refusal (translation_rows s t log (length old)) ≡ Err r → Called s t log old old (Err r)
  unfolding translation_row filled
  called-refused r e = let k = refused-suc (translation_rows s t log (length old)) r e in record { answers = rw e refl; written = rw k.1 refl }

  pub called-served : first_refusal (translation_rows s t log (length old)) ≡ Ok tt → (new : List ℕ) → new ≡ letters_of t log ++ drop (length (letters_of t log)) old
      → Called s t log old new (Ok (event_count log))
  unfolding translation_row filled
  called-served e new w = record { answers = rw e refl; written = rw (row-passes (translation_rows s t log (length old)) e) w }

-- ---- a file

module _ (f t log : List ℕ) where
  pub file-passes : (m : ℕ) → file_row f ≡ 0 → translate_row f t log m ≡ translation_row (rule_in f).s t log m
  file-passes m e = unfold translate_row translation_row file_row in first-right (file_rows_lem f) _ (file-numbered f) e

  -- the answer and the slice of a file that is refused
  pub refused : (r : Refusal) (old : List ℕ) → first_refusal (file_rows_lem f) ≡ Err r → (Err r ≡ translated_of f t log (length old)) × (old ≡ letters_after_lem f t log old)
  unfolding translated_of letters_after_lem translate_row filled
  refused r old e =
      let g = refusal-left (file_rows_lem f) (translation_rows (rule_in f).s t log (length old)) r e in
      let k = refused-suc (translate_rows f t log (length old)) r g in (rw g refl, rw k.1 refl)

  -- the answer and the slice of a file that is accepted
  pub accepted : (old new : List ℕ) (v : Result ℕ Refusal) → file_row f ≡ 0 → Called (rule_in f).s t log old new v → (v ≡ translated_of f t log (length old)) × (new ≡ letters_after_lem f t log old)
  unfolding translated_of letters_after_lem file_row
  accepted old new v e c =
      let j = file-passes (length old) e in
      let k = refusal-right (file_rows_lem f) (translation_rows (rule_in f).s t log (length old)) (refusal-passes (file_rows_lem f) e) in
      (rw k c.answers, rw j c.written)
