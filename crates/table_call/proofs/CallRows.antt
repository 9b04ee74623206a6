-- The rows of a call: which part refuses first, and what a call that is served passes.
use mathlib.Core.Path.{◌≡◌, refl, sym, ◌∙◌}
use mathlib.Core.Bool.{true}
use mathlib.Core.List.{List, [], ◌∷◌, ◌++◌}
use Prim.Native.Nat.{ℕ, ◌*◌, ◌≤◌, ◌<◌}
use native.Mathlib.Omega.{arith}
use native.Mathlib.Nat.{mul-le-mul}
use lib.Dec.{ltb}
use lib.ListN.{length}
use borrow.Author.Tests.{lt-ltb, le-ltb, ltb-false}
use Rattle.sets.specs.Lists.{any_of}
use Rattle.refusals.specs.Rows.{first_refusal, first_row}
use Rattle.slice_search.specs.Places.{ascends, ascends_from}
use Rattle.theory.specs.Word.{places}
use Rattle.std.specs.Prelude.{Ok, Err}
use Rattle.refusals.specs.declared.Refusal.{Refusal}
use Rattle.refusals.specs.declared.Refusal.TheVariants.{Slice}
use Rattle.refusals.proofs.Rows.{numbered, first-parts, first-pass, refusal-left, refusal-right, row-passes}
use Rattle.word_rows.specs.Words.{length_rows, letter_rows, word_rows_lem, word_row_lem}
use Rattle.word_rows.proofs.Checks.{passing-of}
use Rattle.table_lent.specs.Lent.{Lent, in_words, is_faulty_lem, table_rows_lem, table_row_lem}
use Rattle.table_rows.proofs.Passed.{passed}
use Rattle.table_runs.specs.Tracks.{WordReady}
use Rattle.table_call.specs.Calls.{scratch_rows, call_rows, call_row_lem}

-- ---- examples

-- three codes and two places need six bytes
room-5 : call_row_lem 2 (0 ∷ []) (0 ∷ []) (in_words (0 ∷ 257 ∷ 17592186044673 ∷ [])) (in_words []) 5 ≡ 16
unfolding call_row_lem call_rows first_row word_rows_lem length_rows letter_rows table_rows_lem in_words is_faulty_lem ascends ascends_from any_of scratch_rows
room-5 = refl

room-6 : call_row_lem 2 (0 ∷ []) (0 ∷ []) (in_words (0 ∷ 257 ∷ 17592186044673 ∷ [])) (in_words []) 6 ≡ 0
unfolding call_row_lem call_rows first_row word_rows_lem length_rows letter_rows table_rows_lem in_words is_faulty_lem ascends ascends_from any_of scratch_rows
room-6 = refl

-- the word is tried before the table, the table before the slice
word_first : call_row_lem 2 [] [] (in_words (5 ∷ 5 ∷ [])) (in_words []) 0 ≡ 12
unfolding call_row_lem call_rows first_row word_rows_lem length_rows letter_rows table_rows_lem in_words is_faulty_lem ascends ascends_from any_of scratch_rows
word_first = refl

table-next : call_row_lem 2 [] (0 ∷ []) (in_words (5 ∷ 5 ∷ [])) (in_words []) 0 ≡ 15
unfolding call_row_lem call_rows first_row word_rows_lem length_rows letter_rows table_rows_lem in_words is_faulty_lem ascends ascends_from any_of scratch_rows
table-next = refl

-- ---- the rows of a call

module _ (s : ℕ) (lead cycle : List ℕ) (codes transitions : Lent) (m : ℕ) where
  abbrev row : ℕ
  row = call_row_lem s lead cycle codes transitions m

  words-numbered : numbered (word_rows_lem s lead cycle) ≡ true
  unfolding numbered word_rows_lem length_rows letter_rows
  words-numbered = refl

  table-numbered : numbered (table_rows_lem s codes transitions) ≡ true
  unfolding numbered table_rows_lem
  table-numbered = refl

  -- rows 12 to 14
  pub word-refuses : (r : Refusal) → first_refusal (word_rows_lem s lead cycle) ≡ Err r → first_refusal (call_rows s lead cycle codes transitions m) ≡ Err r
  unfolding call_rows
  word-refuses r e = refusal-left (word_rows_lem s lead cycle) _ r e

  -- row 15
  pub table-refuses : (r : Refusal) → first_refusal (word_rows_lem s lead cycle) ≡ Ok tt → first_refusal (table_rows_lem s codes transitions) ≡ Err r
      → first_refusal (call_rows s lead cycle codes transitions m) ≡ Err r
  unfolding call_rows
  table-refuses r w e = refusal-right (word_rows_lem s lead cycle) _ w ∙ refusal-left (table_rows_lem s codes transitions) _ r e

  -- what the parts let pass, behind one another
  then-scratch : first_refusal (word_rows_lem s lead cycle) ≡ Ok tt → first_refusal (table_rows_lem s codes transitions) ≡ Ok tt
      → first_refusal (call_rows s lead cycle codes transitions m) ≡ first_refusal (scratch_rows (length codes.numbers) lead cycle m)
  unfolding call_rows
  then-scratch w t = refusal-right (word_rows_lem s lead cycle) _ w ∙ refusal-right (table_rows_lem s codes transitions) _ t

  -- row 16
  pub scratch-refuses : first_refusal (word_rows_lem s lead cycle) ≡ Ok tt → first_refusal (table_rows_lem s codes transitions) ≡ Ok tt
      → m < length codes.numbers * places lead cycle → first_refusal (call_rows s lead cycle codes transitions m) ≡ Err Slice
  unfolding scratch_rows first_refusal
  scratch-refuses w t l = then-scratch w t ∙ rw (lt-ltb m (length codes.numbers * places lead cycle) l)

  pub call-served : first_refusal (word_rows_lem s lead cycle) ≡ Ok tt → first_refusal (table_rows_lem s codes transitions) ≡ Ok tt
      → length codes.numbers * places lead cycle ≤ m → first_refusal (call_rows s lead cycle codes transitions m) ≡ Ok tt
  unfolding scratch_rows first_refusal
  call-served w t l = then-scratch w t ∙ rw (le-ltb m (length codes.numbers * places lead cycle) l)

  pub record Passes : Type 0 where
    pub word : word_row_lem s lead cycle ≡ 0
    pub table : table_row_lem s codes transitions ≡ 0
    pub room : length codes.numbers * places lead cycle ≤ m

  pub call_passes : row ≡ 0 → Passes
  unfolding call_row_lem call_rows word_row_lem table_row_lem scratch_rows
  call_passes e =
      let p = first-parts (word_rows_lem s lead cycle) (table_rows_lem s codes transitions ++ scratch_rows (length codes.numbers) lead cycle m) words-numbered e in
      let q = first-parts (table_rows_lem s codes transitions) (scratch_rows (length codes.numbers) lead cycle m) table-numbered p.1 in
      record { word = p.0; table = q.0; room = ltb-false m (length codes.numbers * places lead cycle) (first-pass (ltb m (length codes.numbers * places lead cycle)) _ [] q.1).0 }

-- ---- what a call that is served may use

module _ (s : ℕ) (lead cycle : List ℕ) (codes transitions : Lent) (word : first_refusal (word_rows_lem s lead cycle) ≡ Ok tt)
    (table : first_refusal (table_rows_lem s codes transitions) ≡ Ok tt) where
  word-passed : word_row_lem s lead cycle ≡ 0
  word-passed = unfold word_row_lem in row-passes (word_rows_lem s lead cycle) word

  table-passed : table_row_lem s codes transitions ≡ 0
  table-passed = unfold table_row_lem in row-passes (table_rows_lem s codes transitions) table

  -- the marks are few
  pub few-marks : length codes.numbers * places lead cycle ≤ 4194304
  few-marks =
      let p = passed s codes transitions table-passed in let w = (passing-of s lead cycle word-passed).lengths in
      let a : places lead cycle ≤ 64 = omega (arith, w.lead-short, w.cycle-short) in
      mul-le-mul p.few a

  pub ready : (marks : List ℕ) → length marks ≡ length codes.numbers * places lead cycle → WordReady codes.numbers transitions.numbers lead cycle marks
  ready marks e =
      let p = passed s codes transitions table-passed in
      record { repeats = (passing-of s lead cycle word-passed).lengths.repeats; marked = e; sources = p.source; targets = p.target }
