-- The judge that shows the choice: what it refuses, answers and writes, and what that means by plans.
use Rattle.std.specs.Prelude.{◌≡◌, List, [], ◌∷◌, ◌++◌, ℕ, ◌*◌, ltb, length, Bool, Result}
use Rattle.refusals.specs.Rows.{Check, first_refusal, first_row, check}
use Rattle.refusals.specs.declared.Refusal.{Refusal}
use Rattle.refusals.specs.declared.Refusal.TheVariants.{Slice}
use Rattle.theory.specs.Rule.{Rule}
use Rattle.theory.specs.Word.{places}
use Rattle.theory.specs.Truth.{truth_masks}
use Rattle.file_spec.specs.File.{rule_in}
use Rattle.file_spec.specs.Rows.{file_rows_lem}
use Rattle.word_rows.specs.Words.{word_rows_lem}
use Rattle.judge_spec.specs.Judge.{slice_rows, verdict, holds_start, after, Meant}
use Rattle.judge_choices_spec.specs.ChoicesComputed.{choices_of}
use Rattle.judge_choices_spec.specs.Choice.{Written}

-- row 16, of the second slice of k bytes: "result or scratch slice too short", with a byte a pair
unfoldable pub choice_rows : Rule → List ℕ → List ℕ → ℕ → List Check
choice_rows r lead cycle k = check (ltb k (places lead cycle * r.n)) Slice ∷ []

-- the rows of a call once the rule is read; m and k are the lengths of the slices
abbrev pub choices_call_rows : Rule → List ℕ → List ℕ → ℕ → ℕ → List Check
choices_call_rows r lead cycle m k = word_rows_lem r.s lead cycle ++ (slice_rows lead cycle m ++ choice_rows r lead cycle k)

-- the first of them that refuses, or 0
unfoldable pub choices_call_row : Rule → List ℕ → List ℕ → ℕ → ℕ → ℕ
choices_call_row r lead cycle m k = first_row (choices_call_rows r lead cycle m k)

-- 01, "Refused, in order of checking": "Rule .., word, table, slices, room"
abbrev pub choices_rows : List ℕ → List ℕ → List ℕ → ℕ → ℕ → List Check
choices_rows f lead cycle m k = file_rows_lem f ++ choices_call_rows (rule_in f) lead cycle m k

-- the first row that refuses, or 0
unfoldable pub choices_row : List ℕ → List ℕ → List ℕ → ℕ → ℕ → ℕ
choices_row f lead cycle m k = first_row (choices_rows f lead cycle m k)

-- the answer v, and both slices before and after, for a rule that passes every check
pub record CalledChoices (r : Rule) (lead cycle masks masks' choices choices' : List ℕ) (v : Result Bool Refusal) : Type 0 where
  pub answer : v ≡ verdict (first_refusal (choices_call_rows r lead cycle (length masks) (length choices))) (holds_start r lead cycle)
  pub masks_written : masks' ≡ after (choices_call_row r lead cycle (length masks) (length choices)) (truth_masks r lead cycle) masks
  pub choices_written : choices' ≡ after (choices_call_row r lead cycle (length masks) (length choices)) (choices_of r lead cycle) choices

-- the answer v, and both slices before and after, for a file
pub record JudgedChoices (f lead cycle masks masks' choices choices' : List ℕ) (v : Result Bool Refusal) : Type 0 where
  -- the first row that refuses, else whether the initial state is in the mask of place 0
  pub answer : v ≡ verdict (first_refusal (choices_rows f lead cycle (length masks) (length choices))) (holds_start (rule_in f) lead cycle)
  -- a mask a place from the start of the first slice on, and the rest as lent; all as lent where a row refuses
  pub masks_written : masks' ≡ after (choices_row f lead cycle (length masks) (length choices)) (truth_masks (rule_in f) lead cycle) masks
  -- a clause number a pair from the start of the second slice on, likewise
  pub choices_written : choices' ≡ after (choices_row f lead cycle (length masks) (length choices)) (choices_of (rule_in f) lead cycle) choices
  -- by plans: yes or no, the mask of each place
  pub meant : choices_row f lead cycle (length masks) (length choices) ≡ 0 → Meant (rule_in f) lead cycle masks' v
  -- by plans: the choice of each pair; "The written choices must form an accepting plan from every true pair."
  pub chosen : choices_row f lead cycle (length masks) (length choices) ≡ 0 → Written (rule_in f) lead cycle choices'
