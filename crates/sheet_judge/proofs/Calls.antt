-- The rows of a sheet, and what a call answers and writes.
use mathlib.Core.Path.{◌≡◌, sym, ◌∙◌, ap}
use mathlib.Core.List.{List, map}
use Prim.Native.Nat.{ℕ, ◌*◌, ◌≤◌, ◌<◌}
use lib.ListN.{length}
use borrow.Author.Tests.{lt-ltb, le-ltb}
use Rattle.std.specs.Prelude.{Result, Ok, Err}
use Rattle.refusals.specs.Rows.{Check, number_of, first_refusal}
use Rattle.refusals.specs.declared.Refusal.{Refusal}
use Rattle.refusals.specs.declared.Refusal.TheVariants.{Slice, Words}
use Rattle.refusals.proofs.Rows.{number-above, first-right, first-parts, refusal-left, refusal-right, refusal-passes, row-passes, refused-row}
use Rattle.theory.specs.Rule.{Rule}
use Rattle.file_spec.specs.File.{rule_in}
use Rattle.file_spec.specs.Rows.{file_rows_lem, file_row}
use Rattle.file_read.proofs.FileRows.{file-numbered, accepted-passing}
use Rattle.judge_spec.specs.Judge.{after}
use Rattle.judge_spec.proofs.Meaning.{leaves}
use Rattle.sheet_spec.specs.Words.{words_of}
use Rattle.sheet_spec.specs.Sheet.{sheet_rows, sheet_call_rows, sheet_row}
use Rattle.sheet_spec.specs.Computed.{answer_of, all_masks, sheet_of, SheetComputed}
use Rattle.sheet_spec.specs.Judged.{SheetJudged}
use Rattle.sheet_spec.specs.declared.Totals.{Totals}
use Rattle.sheet_laws.proofs.Alone.{alone}
use Rattle.sheet_laws.proofs.Meaning.{sheet-meant}
use Rattle.sheet_judge.specs.Called.{called_row, WordsJudged, SheetCalled}

-- ---- rows

module _ (sheet : List ℕ) (answers masks : ℕ) where
  abbrev n : ℕ
  n = length (words_of sheet)

  pub many-words : 64 < n → first_refusal (sheet_rows sheet answers masks) ≡ Err Words
  unfolding sheet_rows first_refusal
  many-words h = rw (lt-ltb 64 n h)

  pub answers-short : n ≤ 64 → answers < n → first_refusal (sheet_rows sheet answers masks) ≡ Err Slice
  unfolding sheet_rows first_refusal
  answers-short l h = rw (le-ltb 64 n l, lt-ltb answers n h)

  pub masks-short : n ≤ 64 → n ≤ answers → masks < 64 * n → first_refusal (sheet_rows sheet answers masks) ≡ Err Slice
  unfolding sheet_rows first_refusal
  masks-short l k h = rw (le-ltb 64 n l, le-ltb answers n k, lt-ltb masks (64 * n) h)

  pub sheet-served : n ≤ 64 → n ≤ answers → 64 * n ≤ masks → first_refusal (sheet_rows sheet answers masks) ≡ Ok tt
  unfolding sheet_rows first_refusal
  sheet-served l k h = rw (le-ltb 64 n l, le-ltb answers n k, le-ltb masks (64 * n) h)

  -- the rows of the rule come first
  file-refuses : (f : List ℕ) (k : Refusal) → first_refusal (file_rows_lem f) ≡ Err k → first_refusal (sheet_call_rows f sheet answers masks) ≡ Err k
  file-refuses f k e = refusal-left (file_rows_lem f) (sheet_rows sheet answers masks) k e

  file-passes : (f : List ℕ) → file_row f ≡ 0 → first_refusal (sheet_call_rows f sheet answers masks) ≡ first_refusal (sheet_rows sheet answers masks)
  unfolding file_row
  file-passes f e = refusal-right (file_rows_lem f) (sheet_rows sheet answers masks) (refusal-passes (file_rows_lem f) e)

  row-passed : (f : List ℕ) → file_row f ≡ 0 → sheet_row f sheet answers masks ≡ called_row sheet answers masks
  unfolding sheet_row called_row file_row
  row-passed f e = first-right (file_rows_lem f) (sheet_rows sheet answers masks) (file-numbered f) e

  file-served : (f : List ℕ) → sheet_row f sheet answers masks ≡ 0 → file_row f ≡ 0
  unfolding sheet_row file_row
  file-served f e = (first-parts (file_rows_lem f) (sheet_rows sheet answers masks) (file-numbered f) e).0

-- ---- a rule that is read

abbrev rows : List ℕ → List ℕ → List ℕ → List Check
rows sheet answers masks = sheet_rows sheet (length answers) (length masks)

module _ {r : Rule} {sheet answers masks : List ℕ} where
  pub called-refused : (k : Refusal) → first_refusal (rows sheet answers masks) ≡ Err k → SheetCalled r sheet answers masks answers masks (Err k)
  unfolding called_row
  called-refused k e =
      let n = refused-row (rows sheet answers masks) k e in
      record {
        answered = rw e;
        answers_written = rw n (leaves (number_of k) (number-above k) (map (answer_of r) (words_of sheet)) answers);
        masks_written = rw n (leaves (number_of k) (number-above k) (all_masks r (words_of sheet)) masks);
      }

  pub called-served : first_refusal (rows sheet answers masks) ≡ Ok tt → {answers' masks' : List ℕ} {n cycles : ℕ} → n ≡ length (words_of sheet)
      → WordsJudged r sheet answers masks answers' masks' cycles → SheetCalled r sheet answers masks answers' masks' (Ok (record { words = n; cycles = cycles }))
  unfolding called_row
  called-served e w J =
      let n = row-passes (rows sheet answers masks) e in
      record { answered = rw (e, w, J.count); answers_written = rw n J.answers_written; masks_written = rw n J.masks_written }

-- ---- a file

abbrev call_rows : List ℕ → List ℕ → List ℕ → List ℕ → List Check
call_rows f sheet answers masks = sheet_call_rows f sheet (length answers) (length masks)

module _ {f sheet answers masks : List ℕ} where
  -- what holds of every answer as it is computed
  computed : {answers' masks' : List ℕ} {v : Result Totals Refusal} → v ≡ sheet_of f sheet (length answers) (length masks)
      → answers' ≡ after (sheet_row f sheet (length answers) (length masks)) (map (answer_of (rule_in f)) (words_of sheet)) answers
      → masks' ≡ after (sheet_row f sheet (length answers) (length masks)) (all_masks (rule_in f) (words_of sheet)) masks → SheetComputed f sheet answers masks answers' masks' v
  computed a b c = record {
    answered = a;
    answers_written = b;
    masks_written = c;
    alone = λ e a b t l. alone f (file-served sheet (length answers) (length masks) f e) a b t l;
  }

  -- it is what plans and tidy spellings say
  judged : {answers' masks' : List ℕ} {v : Result Totals Refusal} → SheetComputed f sheet answers masks answers' masks' v → SheetJudged f sheet answers masks answers' masks' v
  unfolding sheet_of sheet_row
  judged {answers'} {masks'} {v} C =
      let news = map (answer_of (rule_in f)) (words_of sheet) in
      let blocks = all_masks (rule_in f) (words_of sheet) in
      record {
        served = λ e. sheet-meant (rule_in f) (accepted-passing f (file-served sheet (length answers) (length masks) f e)) sheet answers masks answers' masks' v
            (rw (refusal-passes (call_rows f sheet answers masks) e) at C.answered) (rw e at C.answers_written) (rw e at C.masks_written);
        refused = λ k e. let n = refused-row (call_rows f sheet answers masks) k e in (
          rw e at C.answered,
          C.answers_written ∙ ap (λ (j : ℕ). after j news answers) n ∙ sym (leaves (number_of k) (number-above k) news answers),
          C.masks_written ∙ ap (λ (j : ℕ). after j blocks masks) n ∙ sym (leaves (number_of k) (number-above k) blocks masks),
        );
      }

  pub judged-refused : (k : Refusal) → first_refusal (file_rows_lem f) ≡ Err k → SheetJudged f sheet answers masks answers masks (Err k) × SheetComputed f sheet answers masks answers masks (Err k)
  unfolding sheet_of sheet_row
  judged-refused k e =
      let j = file-refuses sheet (length answers) (length masks) f k e in
      let n = refused-row (call_rows f sheet answers masks) k j in
      let C : SheetComputed f sheet answers masks answers masks (Err k)
      = computed (rw j) (rw n (leaves (number_of k) (number-above k) (map (answer_of (rule_in f)) (words_of sheet)) answers))
      (rw n (leaves (number_of k) (number-above k) (all_masks (rule_in f) (words_of sheet)) masks)) in
      (judged C, C)

  pub judged-called : {answers' masks' : List ℕ} {v : Result Totals Refusal} → file_row f ≡ 0 → SheetCalled (rule_in f) sheet answers masks answers' masks' v
      → SheetJudged f sheet answers masks answers' masks' v × SheetComputed f sheet answers masks answers' masks' v
  unfolding sheet_of
  judged-called {answers'} {masks'} {v} e D =
      let p = row-passed sheet (length answers) (length masks) f e in
      let C : SheetComputed f sheet answers masks answers' masks' v
      = computed (rw (file-passes sheet (length answers) (length masks) f e) D.answered) (rw p D.answers_written) (rw p D.masks_written) in
      (judged C, C)
