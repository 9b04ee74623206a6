-- The judge of words on the rule: what it refuses, answers and writes, and what that means by plans.
use Rattle.std.specs.Prelude.{◌≡◌, ◌↔◌, Bool, true, false, List, [], ◌∷◌, ◌++◌, ℕ, zero, suc, ◌<◌, ltb, length, get_or, drop, Result, Ok, Err, ⊤}
use Rattle.sets.specs.Masks.{bit}
use Rattle.refusals.specs.Rows.{Check, first_refusal, first_row, check}
use Rattle.refusals.specs.declared.Refusal.{Refusal}
use Rattle.refusals.specs.declared.Refusal.TheVariants.{Slice}
use Rattle.theory.specs.Rule.{Rule}
use Rattle.theory.specs.Word.{places}
use Rattle.theory.specs.Plan.{AcceptsFrom, AcceptsWord}
use Rattle.theory.specs.Truth.{truth_masks}
use Rattle.file_spec.specs.File.{rule_in}
use Rattle.file_spec.specs.Rows.{file_rows_lem}
use Rattle.word_rows.specs.Words.{word_rows_lem}

-- row 16, of a slice of m bytes: "result or scratch slice too short", with one byte a place
unfoldable pub slice_rows : List ℕ → List ℕ → ℕ → List Check
slice_rows lead cycle m = check (ltb m (places lead cycle)) Slice ∷ []

-- the rows of a call once the rule is read
abbrev pub judge_call_rows : Rule → List ℕ → List ℕ → ℕ → List Check
judge_call_rows r lead cycle m = word_rows_lem r.s lead cycle ++ slice_rows lead cycle m

-- the first of them that refuses, or 0
unfoldable pub judge_call_row : Rule → List ℕ → List ℕ → ℕ → ℕ
judge_call_row r lead cycle m = first_row (judge_call_rows r lead cycle m)

-- 01, "Refused, in order of checking": "Rule .., word, table, slices, room"
abbrev pub judge_rows : List ℕ → List ℕ → List ℕ → ℕ → List Check
judge_rows f lead cycle m = file_rows_lem f ++ judge_call_rows (rule_in f) lead cycle m

-- the first row that refuses, or 0
unfoldable pub judge_row : List ℕ → List ℕ → List ℕ → ℕ → ℕ
judge_row f lead cycle m = first_row (judge_rows f lead cycle m)

-- by what refuses: "The answer is the number alone", else whether it is yes
abbrev pub verdict : Result ⊤ Refusal → Bool → Result Bool Refusal
verdict (Ok _) b = Ok b
verdict (Err r) b = Err r

-- whether the mask at place 0 holds the initial state
abbrev pub holds_start : Rule → List ℕ → List ℕ → Bool
holds_start r lead cycle = bit (get_or (truth_masks r lead cycle) 0 0) r.initial

-- 01: "The judge answers yes or no for the initial state at place 0"; m is the length of the slice
unfoldable pub judge_of : List ℕ → List ℕ → List ℕ → ℕ → Result Bool Refusal
judge_of f lead cycle m = verdict (first_refusal (judge_rows f lead cycle m)) (holds_start (rule_in f) lead cycle)

-- by the row, or 0: the masks at the start of the slice, "the rest untouched"; a refusal changes "no lent slice"
unfoldable pub after : ℕ → List ℕ → List ℕ → List ℕ
after zero masks old = masks ++ drop (length masks) old
after (suc k) masks old = old

-- what an answer and the masks mean, by plans
pub record Meant (r : Rule) (lead cycle masks : List ℕ) (v : Result Bool Refusal) : Type 0 where
  -- 01: "per place, the mask of accepting pairs' states"
  pub pairs : (q p : ℕ) → q < 8 → p < places lead cycle → (bit (get_or masks p 0) q ≡ true) ↔ ((q < r.n) × AcceptsFrom r lead cycle q p)
  -- 01: "It accepts the word if it accepts from its initial state at place 0."
  pub yes : (v ≡ Ok true) ↔ AcceptsWord r lead cycle
  pub no : (v ≡ Ok false) ↔ (AcceptsWord r lead cycle → ⊥)

-- the answer v, and the slice before and after, for a rule that passes every check
pub record JudgeCalled (r : Rule) (lead cycle old new : List ℕ) (v : Result Bool Refusal) : Type 0 where
  pub answer : v ≡ verdict (first_refusal (judge_call_rows r lead cycle (length old))) (holds_start r lead cycle)
  pub written : new ≡ after (judge_call_row r lead cycle (length old)) (truth_masks r lead cycle) old

-- the answer v, and the slice before and after, for a file
pub record Judged (f lead cycle old new : List ℕ) (v : Result Bool Refusal) : Type 0 where
  pub answer : v ≡ judge_of f lead cycle (length old)
  pub written : new ≡ after (judge_row f lead cycle (length old)) (truth_masks (rule_in f) lead cycle) old
  pub meant : judge_row f lead cycle (length old) ≡ 0 → Meant (rule_in f) lead cycle new v
