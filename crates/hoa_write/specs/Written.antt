-- The writer of a table's text: what it refuses, answers and writes. 02, M-100.
use Rattle.std.specs.Prelude.{◌≡◌, List, [], ◌∷◌, ◌++◌, ℕ, ◌+◌, ◌*◌, ltb, length, Result, Ok}
use Rattle.std.specs.Result.{result_and}
use Rattle.refusals.specs.Rows.{Check, first_refusal, first_row, check}
use Rattle.refusals.specs.declared.Refusal.{Refusal}
use Rattle.refusals.specs.declared.Refusal.TheVariants.{Slice}
use Rattle.file_spec.specs.File.{rule_in}
use Rattle.file_spec.specs.Rows.{file_rows_lem}
use Rattle.file_write_spec.specs.Written.{after}
use Rattle.table_lent.specs.Lent.{Lent, table_rows_lem}
use Rattle.hoa_spec.specs.Text.{text_of}

-- the text of a lent table under a rule of s letters with this initial state
abbrev pub lent_text : ℕ → ℕ → Lent → Lent → List ℕ
lent_text s initial codes transitions = text_of s initial codes.numbers transitions.numbers

-- rows 15 and 16, "result or scratch slice too short", once the rule is read; the slice has room bytes
unfoldable pub text_rows : ℕ → ℕ → Lent → Lent → ℕ → List Check
text_rows s initial codes transitions room =
    table_rows_lem s codes transitions ++ (check (ltb room (length (lent_text s initial codes transitions))) Slice ∷ [])

-- the first of them that refuses, or 0
unfoldable pub text_row : ℕ → ℕ → Lent → Lent → ℕ → ℕ
text_row s initial codes transitions room = first_row (text_rows s initial codes transitions room)

-- 01, "Refused, in order of checking": rule, table, slices
abbrev pub write_rows : List ℕ → Lent → Lent → ℕ → List Check
write_rows f codes transitions room = file_rows_lem f ++ text_rows (rule_in f).s (rule_in f).initial codes transitions room

-- the first row that refuses, or 0
unfoldable pub write_row : List ℕ → Lent → Lent → ℕ → ℕ
write_row f codes transitions room = first_row (write_rows f codes transitions room)

-- the text of a lent table under the rule of a file
abbrev pub file_text : List ℕ → Lent → Lent → List ℕ
file_text f codes transitions = lent_text (rule_in f).s (rule_in f).initial codes transitions

-- by what refuses first: the length of the text where nothing does, else the refusal alone
unfoldable pub hoa_written : List ℕ → Lent → Lent → ℕ → Result ℕ Refusal
hoa_written f codes transitions room = result_and (first_refusal (write_rows f codes transitions room)) (Ok (length (file_text f codes transitions)))

-- 02: "a call fills lent slices from their start and leaves the rest as lent, and refusals from 19 on change no lent slice"; 15 and 16 change none either
unfoldable pub hoa_after : List ℕ → Lent → Lent → List ℕ → List ℕ
hoa_after f codes transitions old = after (write_row f codes transitions (length old)) (file_text f codes transitions) old

-- MULGREDDI_HOA_BOUND: a slice of so many bytes has room for the text of a table
abbrev pub bound : ℕ → ℕ → ℕ
bound macrostates transitions = 30 * macrostates + 20 * transitions + 153

-- the answer v, and the slice before and after, once a rule of s letters with this initial state is read
pub record Called (s initial : ℕ) (codes transitions : Lent) (old new : List ℕ) (v : Result ℕ Refusal) : Type 0 where
  pub answers : v ≡ result_and (first_refusal (text_rows s initial codes transitions (length old))) (Ok (length (lent_text s initial codes transitions)))
  pub written : new ≡ after (text_row s initial codes transitions (length old)) (lent_text s initial codes transitions) old
