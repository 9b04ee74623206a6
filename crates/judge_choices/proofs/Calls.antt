-- The rows of a call, and what a call answers and writes.
use mathlib.Core.Path.{◌≡◌, refl, sym, ◌∙◌, ap}
use mathlib.Core.Bool.{Bool}
use mathlib.Core.List.{List, ◌++◌}
use Prim.Native.Nat.{ℕ, zero, suc, ◌+◌, ◌*◌, ◌≤◌, ◌<◌}
use native.Mathlib.Omega.{arith}
use native.Mathlib.Nat.{mul-le-mul}
use lib.ListN.{length, get_or, drop, get_or-append}
use borrow.Author.Tests.{lt-ltb, le-ltb}
use Rattle.sets.specs.Masks.{bit}
use Rattle.std.specs.Prelude.{Result, Ok, Err, ⊤}
use Rattle.refusals.specs.Rows.{Check, number_of, first_refusal}
use Rattle.refusals.specs.declared.Refusal.{Refusal}
use Rattle.refusals.specs.declared.Refusal.TheVariants.{Slice}
use Rattle.sets.proofs.Lists.{length-tabulate}
use Rattle.refusals.proofs.Rows.{number-above, first-right, first-parts, refusal-left, refusal-right, refusal-passes, row-passes, refused-row, refused-some}
use Rattle.theory.specs.Rule.{Rule}
use Rattle.theory.specs.Passing.{Passing}
use Rattle.theory.specs.Word.{places, WordOver}
use Rattle.theory.specs.Truth.{truth_masks}
use Rattle.theory_laws.proofs.Truth.{truth-length}
use Rattle.file_spec.specs.File.{rule_in}
use Rattle.file_spec.specs.Rows.{file_rows_lem, file_row}
use Rattle.file_read.proofs.FileRows.{file-numbered, accepted-passing}
use Rattle.word_rows.specs.Words.{word_rows_lem, word_row_lem}
use Rattle.word_rows.proofs.Checks.{passing-of, word_over}
use Rattle.judge_spec.specs.Judge.{slice_rows, verdict, holds_start, after, Meant}
use Rattle.judge_spec.proofs.Meaning.{meaning as masks-meaning, leaves}
use Rattle.judge_choices_spec.specs.ChoicesComputed.{choices_by, choices_of}
use Rattle.judge_choices_spec.specs.Choice.{Written}
use Rattle.judge_choices_place.proofs.Meaning.{meaning as choices-meaning}
use Rattle.judge_choices.specs.Judge.{choice_rows, choices_call_rows, choices_call_row, choices_rows, choices_row, CalledChoices, JudgedChoices}
use Rattle.judge_spec.proofs.Rows.{rows-numbered}

module _ (r : Rule) (lead cycle : List ℕ) where
  pub choices-long : length (choices_of r lead cycle) ≡ places lead cycle * r.n
  unfolding choices_by
  choices-long = length-tabulate (places lead cycle * r.n) _ 0

-- a word that passes has at most 64 places
pub places-few : (s : ℕ) (lead cycle : List ℕ) → first_refusal (word_rows_lem s lead cycle) ≡ Ok tt → places lead cycle ≤ 64
places-few s lead cycle e = let p = passing-of s lead cycle (unfold word_row_lem in row-passes (word_rows_lem s lead cycle) e) in let a = p.lengths.lead-short in let b = p.lengths.cycle-short in omega arith

pub bytes-few : (n s : ℕ) (lead cycle : List ℕ) → first_refusal (word_rows_lem s lead cycle) ≡ Ok tt → n ≤ 8 → places lead cycle * n ≤ 512
bytes-few n s lead cycle e l = let h : places lead cycle * n ≤ 64 * 8 = mul-le-mul (places-few s lead cycle e) l in omega arith

-- ---- rows
module _ (r : Rule) (lead cycle : List ℕ) (m k : ℕ) where
  -- rows 12 to 14
  pub word-refuses : (j : Refusal) → first_refusal (word_rows_lem r.s lead cycle) ≡ Err j → first_refusal (choices_call_rows r lead cycle m k) ≡ Err j
  word-refuses j e = refusal-left (word_rows_lem r.s lead cycle) _ j e

  word-passes : first_refusal (word_rows_lem r.s lead cycle) ≡ Ok tt
      → first_refusal (choices_call_rows r lead cycle m k) ≡ first_refusal (slice_rows lead cycle m ++ choice_rows r lead cycle k)
  word-passes e = refusal-right (word_rows_lem r.s lead cycle) _ e

  -- row 16, of the first slice and of the second
  pub masks-refuse : first_refusal (word_rows_lem r.s lead cycle) ≡ Ok tt → m < places lead cycle → first_refusal (choices_call_rows r lead cycle m k) ≡ Err Slice
  unfolding slice_rows first_refusal
  masks-refuse e l = word-passes e ∙ rw (lt-ltb m (places lead cycle) l)

  pub choices-refuse : first_refusal (word_rows_lem r.s lead cycle) ≡ Ok tt → places lead cycle ≤ m → k < places lead cycle * r.n
      → first_refusal (choices_call_rows r lead cycle m k) ≡ Err Slice
  unfolding slice_rows choice_rows first_refusal
  choices-refuse e l h = word-passes e ∙ rw (le-ltb m (places lead cycle) l, lt-ltb k (places lead cycle * r.n) h)

  pub call-served : first_refusal (word_rows_lem r.s lead cycle) ≡ Ok tt → places lead cycle ≤ m → places lead cycle * r.n ≤ k
      → first_refusal (choices_call_rows r lead cycle m k) ≡ Ok tt
  unfolding slice_rows choice_rows first_refusal
  call-served e l h = word-passes e ∙ rw (le-ltb m (places lead cycle) l, le-ltb k (places lead cycle * r.n) h)

  pub call-word : choices_call_row r lead cycle m k ≡ 0 → word_row_lem r.s lead cycle ≡ 0
  unfolding choices_call_row word_row_lem word_rows_lem
  call-word e = (first-parts (word_rows_lem r.s lead cycle) (slice_rows lead cycle m ++ choice_rows r lead cycle k) (rows-numbered r lead cycle m) e).0

module _ (f lead cycle : List ℕ) (m k : ℕ) where
  -- rows 1 to 11
  file-refuses : (j : Refusal) → first_refusal (file_rows_lem f) ≡ Err j → first_refusal (choices_rows f lead cycle m k) ≡ Err j
  file-refuses j e = refusal-left (file_rows_lem f) _ j e

  file-passes : file_row f ≡ 0 → first_refusal (choices_rows f lead cycle m k) ≡ first_refusal (choices_call_rows (rule_in f) lead cycle m k)
  unfolding file_row
  file-passes e = refusal-right (file_rows_lem f) _ (refusal-passes (file_rows_lem f) e)

  row-passed : file_row f ≡ 0 → choices_row f lead cycle m k ≡ choices_call_row (rule_in f) lead cycle m k
  unfolding choices_row choices_call_row file_row
  row-passed e = first-right (file_rows_lem f) _ (file-numbered f) e

-- ---- a rule that is read
module _ (r : Rule) (lead cycle masks choices : List ℕ) where
  abbrev rows : List Check
  rows = choices_call_rows r lead cycle (length masks) (length choices)

  pub called-refused : (k : Refusal) → first_refusal rows ≡ Err k → CalledChoices r lead cycle masks masks choices choices (Err k)
  unfolding choices_call_row
  called-refused k e =
      let n = refused-row rows k e in
      record {
        answer = rw e;
        masks_written = rw n (leaves (number_of k) (number-above k) (truth_masks r lead cycle) masks);
        choices_written = rw n (leaves (number_of k) (number-above k) (choices_of r lead cycle) choices);
      }

  -- both slices are written; b tells whether the first mask holds the initial state
  pub called-served : first_refusal rows ≡ Ok tt → (masks' choices' : List ℕ) → masks' ≡ truth_masks r lead cycle ++ drop (places lead cycle) masks
      → choices' ≡ choices_of r lead cycle ++ drop (places lead cycle * r.n) choices → 0 < length cycle
      → (b : Bool) → bit (get_or masks' 0 0) r.initial ≡ b → CalledChoices r lead cycle masks masks' choices choices' (Ok b)
  unfolding after choices_call_row
  called-served j masks' choices' w c h b t =
      let first : get_or masks' 0 0 ≡ get_or (truth_masks r lead cycle) 0 0
      = ap (λ (x : List ℕ). get_or x 0 0) w ∙ get_or-append (truth_masks r lead cycle) (drop (places lead cycle) masks) 0 0 (let x = truth-length r lead cycle in omega arith) in
      let held : holds_start r lead cycle ≡ b = ap (λ (x : ℕ). bit x r.initial) (sym first) ∙ t in
      let n = row-passes rows j in
      record {
        answer = rw (j, held);
        masks_written = rw n (w ∙ ap (λ (n : ℕ). truth_masks r lead cycle ++ drop n masks) (sym (truth-length r lead cycle)));
        choices_written = rw n (c ∙ ap (λ (n : ℕ). choices_of r lead cycle ++ drop n choices) (sym (choices-long r lead cycle)));
      }

module _ (r : Rule) (P : Passing r) (lead cycle masks masks' choices choices' : List ℕ) (v : Result Bool Refusal) (c : CalledChoices r lead cycle masks masks' choices choices' v)
    (e : choices_call_row r lead cycle (length masks) (length choices) ≡ 0) where
  over : WordOver r.s lead cycle
  over = word_over r.s lead cycle (call-word r lead cycle (length masks) (length choices) e)

  called-meant : Meant r lead cycle masks' v
  unfolding after choices_call_row
  called-meant =
      let a : v ≡ Ok (holds_start r lead cycle) = c.answer
      ∙ ap (λ (k : Result ⊤ Refusal). verdict k (holds_start r lead cycle)) (refusal-passes (choices_call_rows r lead cycle (length masks) (length choices)) e) in
      let w : masks' ≡ truth_masks r lead cycle ++ drop (length (truth_masks r lead cycle)) masks = c.masks_written ∙ ap (λ (k : ℕ). after k (truth_masks r lead cycle) masks) e in
      rw (a, w) (masks-meaning r P lead cycle over (drop (length (truth_masks r lead cycle)) masks))

  called-chosen : Written r lead cycle choices'
  unfolding after
  called-chosen =
      let w : choices' ≡ choices_of r lead cycle ++ drop (length (choices_of r lead cycle)) choices = c.choices_written ∙ ap (λ (k : ℕ). after k (choices_of r lead cycle) choices) e in
      rw w (choices-meaning r P lead cycle over (drop (length (choices_of r lead cycle)) choices))

-- ---- a file
module _ (f lead cycle masks masks' choices choices' : List ℕ) where
  abbrev file_call_rows : List Check
  file_call_rows = choices_rows f lead cycle (length masks) (length choices)

  pub judged-refused : (k : Refusal) → first_refusal (file_rows_lem f) ≡ Err k → JudgedChoices f lead cycle masks masks choices choices (Err k)
  unfolding choices_row
  judged-refused k e =
      let j = file-refuses f lead cycle (length masks) (length choices) k e in
      let n = refused-row file_call_rows k j in
      record {
        answer = rw j;
        masks_written = rw n (leaves (number_of k) (number-above k) (truth_masks (rule_in f) lead cycle) masks);
        choices_written = rw n (leaves (number_of k) (number-above k) (choices_of (rule_in f) lead cycle) choices);
        meant = λ z. absurd (refused-some file_call_rows k j z);
        chosen = λ z. absurd (refused-some file_call_rows k j z);
      }

  pub judged-called : (v : Result Bool Refusal) → file_row f ≡ 0 → CalledChoices (rule_in f) lead cycle masks masks' choices choices' v → JudgedChoices f lead cycle masks masks' choices choices' v
  judged-called v e c =
      let i = file-passes f lead cycle (length masks) (length choices) e in
      let j = row-passed f lead cycle (length masks) (length choices) e in
      record {
        answer = rw i c.answer;
        masks_written = rw j c.masks_written;
        choices_written = rw j c.choices_written;
        meant = λ z. called-meant (rule_in f) (accepted-passing f e) lead cycle masks masks' choices choices' v c (sym j ∙ z);
        chosen = λ z. called-chosen (rule_in f) (accepted-passing f e) lead cycle masks masks' choices choices' v c (sym j ∙ z);
      }
