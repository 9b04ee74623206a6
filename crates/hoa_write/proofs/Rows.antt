-- The rows of a call: which part refuses first, and the answer by what refuses.
use mathlib.Core.Path.{◌≡◌, refl, sym, ◌∙◌, ap}
use mathlib.Core.Bool.{true}
use mathlib.Core.List.{List, [], ◌∷◌, ◌++◌}
use Prim.Native.Nat.{ℕ, ◌≤◌, ◌<◌}
use lib.Dec.{ltb}
use lib.ListN.{length, drop}
use borrow.Author.Tests.{lt-ltb, le-ltb}
use Rattle.std.specs.Prelude.{Result, Ok, Err}
use Rattle.refusals.specs.declared.Refusal.{Refusal}
use Rattle.refusals.specs.declared.Refusal.TheVariants.{Slice}
use Rattle.refusals.specs.Rows.{check, first_refusal, first_row}
use Rattle.refusals.proofs.Rows.{numbered, first-right, refusal-passes, refusal-yes, refusal-left, refusal-right, refused-suc, row-passes}
use Rattle.file_spec.specs.File.{rule_in}
use Rattle.file_spec.specs.Rows.{file_rows_lem, file_row}
use Rattle.file_read.proofs.FileRows.{file-numbered}
use Rattle.file_write_spec.specs.Written.{after}
use Rattle.table_lent.specs.Lent.{Lent, table_rows_lem, table_row_lem}
use Rattle.hoa_write.specs.Written.{lent_text, text_rows, text_row, write_rows, write_row, hoa_written, hoa_after, Called}

module _ (s initial : ℕ) (codes transitions : Lent) where
  abbrev text : List ℕ
  text = lent_text s initial codes transitions

  table-numbered : numbered (table_rows_lem s codes transitions) ≡ true
  unfolding numbered table_rows_lem
  table-numbered = refl

  module _ (room : ℕ) where
    table-passes : table_row_lem s codes transitions ≡ 0 → text_row s initial codes transitions room ≡ first_row (check (ltb room (length text)) Slice ∷ [])
    unfolding text_row text_rows table_row_lem
    table-passes e = first-right (table_rows_lem s codes transitions) (check (ltb room (length text)) Slice ∷ []) table-numbered e

    pub call-served : table_row_lem s codes transitions ≡ 0 → length text ≤ room → text_row s initial codes transitions room ≡ 0
    unfolding first_row
    call-served e l = table-passes e ∙ rw (le-ltb room (length text) l)

-- ---- a rule of s letters that is read

module _ {s initial : ℕ} {codes transitions : Lent} {old : List ℕ} where
  called-refused : (r : Refusal) → first_refusal (text_rows s initial codes transitions (length old)) ≡ Err r → Called s initial codes transitions old old (Err r)
  unfolding text_row after
  called-refused r e = let k = refused-suc (text_rows s initial codes transitions (length old)) r e in record { answers = rw e refl; written = rw k.1 refl }

  -- row 15
  pub called-table : (r : Refusal) → first_refusal (table_rows_lem s codes transitions) ≡ Err r → Called s initial codes transitions old old (Err r)
  unfolding text_rows
  called-table r e = called-refused r (refusal-left (table_rows_lem s codes transitions) _ r e)

  -- row 16
  pub called-slice : first_refusal (table_rows_lem s codes transitions) ≡ Ok tt → length old < length (text s initial codes transitions)
      → Called s initial codes transitions old old (Err Slice)
  unfolding text_rows
  called-slice e l =
      called-refused Slice (refusal-right (table_rows_lem s codes transitions) (check (ltb (length old) (length (text s initial codes transitions))) Slice ∷ []) e
      ∙ refusal-yes (check (ltb (length old) (length (text s initial codes transitions))) Slice) [] (lt-ltb (length old) (length (text s initial codes transitions)) l))

  -- no row
  pub called-served : first_refusal (table_rows_lem s codes transitions) ≡ Ok tt → length (text s initial codes transitions) ≤ length old → {n : ℕ} {new : List ℕ}
      → n ≡ length (text s initial codes transitions) → new ≡ text s initial codes transitions ++ drop (length (text s initial codes transitions)) old
      → Called s initial codes transitions old new (Ok n)
  unfolding text_row table_row_lem after
  called-served t h l w =
      let e = call-served s initial codes transitions (length old) (row-passes (table_rows_lem s codes transitions) t) h in
      let p = refusal-passes (text_rows s initial codes transitions (length old)) e in record { answers = rw (p, l) refl; written = rw e w }

-- ---- a file

module _ (f : List ℕ) (codes transitions : Lent) where
  pub file-passes : (room : ℕ) → file_row f ≡ 0 → write_row f codes transitions room ≡ text_row (rule_in f).s (rule_in f).initial codes transitions room
  unfolding write_row text_row file_row
  file-passes room e = first-right (file_rows_lem f) _ (file-numbered f) e

  -- the answer and the slice of a file that is refused
  pub refused : (r : Refusal) (old : List ℕ) → first_refusal (file_rows_lem f) ≡ Err r → (Err r ≡ hoa_written f codes transitions (length old)) × (old ≡ hoa_after f codes transitions old)
  unfolding hoa_written hoa_after write_row after
  refused r old e =
      let g = refusal-left (file_rows_lem f) (text_rows (rule_in f).s (rule_in f).initial codes transitions (length old)) r e in
      let k = refused-suc (write_rows f codes transitions (length old)) r g in (rw g refl, rw k.1 refl)

  -- the answer and the slice of a file that is accepted
  pub accepted : (old new : List ℕ) (v : Result ℕ Refusal) → file_row f ≡ 0 → Called (rule_in f).s (rule_in f).initial codes transitions old new v
      → (v ≡ hoa_written f codes transitions (length old)) × (new ≡ hoa_after f codes transitions old)
  unfolding hoa_written hoa_after file_row
  accepted old new v e c =
      let j = file-passes (length old) e in
      let k = refusal-right (file_rows_lem f) (text_rows (rule_in f).s (rule_in f).initial codes transitions (length old)) (refusal-passes (file_rows_lem f) e) in
      (rw k c.answers, rw j c.written)
