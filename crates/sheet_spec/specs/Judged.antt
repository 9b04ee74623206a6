-- What the judge of a sheet of words answers and leaves, by plans and tidy spellings.
use Rattle.std.specs.Prelude.{◌≡◌, ℕ, suc, ◌*◌, ◌≤◌, ◌<◌, length, get_or, take, drop, replicate}
use mathlib.Core.List.{List, [], Memᴰ}
use Rattle.theory.specs.Rule.{Rule}
use Rattle.theory.specs.Word.{places, letters}
use Rattle.file_spec.specs.File.{rule_in}
use Rattle.judge_spec.specs.Judge.{Meant}
use Rattle.word_spelling_spec.specs.Spelling.{Tidy}
use Rattle.sheet_spec.specs.Words.{SheetWord, lone, words_of, lead_of, cycle_of, fault_of}
use Rattle.sheet_spec.specs.Sheet.{byte_of, sheet_call_rows, sheet_row}
use Rattle.sheet_spec.specs.declared.Totals.{Totals}
use Rattle.std.specs.Prelude.{Bool, Result, Ok, Err}
use Rattle.refusals.specs.Rows.{first_refusal}
use Rattle.refusals.specs.declared.Refusal.{Refusal}

-- a word's answer byte, and its mask bytes. 02: "Each word has 64 mask bytes"
pub record WordMeant (r : Rule) (w : SheetWord) (answer : ℕ) (masks : List ℕ) : Type 0 where
  pub long : length masks ≡ 64
  -- 02: "Answer the sheet as if each word were judged alone": yes or no, and the mask of each place, are what they mean for the judge of one word
  pub alone : fault_of r.s w ≡ 0 → (v : Result Bool Refusal) × (answer ≡ byte_of v) × Meant r (lead_of w) (cycle_of w) masks v
  -- "those past its places zero"
  pub past : fault_of r.s w ≡ 0 → (p : ℕ) → places (lead_of w) (cycle_of w) ≤ p → get_or masks p 0 ≡ 0
  -- "or a faulty word's own number", "a faulty word's all zero"
  pub faulty : (k : ℕ) → fault_of r.s w ≡ suc k → (answer ≡ suc k) × (masks ≡ replicate 64 0)

-- no cycle stands twice
abbrev pub Once : List (List ℕ) → Type 0
Once ks = (i j : ℕ) → i < j → j < length ks → get_or ks i [] ≡ get_or ks j [] → ⊥

-- 02: "the number of distinct tidy cycles on the sheet", "A faulty word adds no cycle to the count": the cycles ks are those of the tidy spellings of
-- the words that are not faulty, over s letters, each once
pub record TidyCycles (s : ℕ) (ws : List SheetWord) (ks : List (List ℕ)) : Type 0 where
  pub once : Once ks
  pub all : (w : SheetWord) → Memᴰ w ws → fault_of s w ≡ 0 → (lead cycle : List ℕ) → Tidy (letters (lead_of w) (cycle_of w)) lead cycle → Memᴰ cycle ks
  pub only : (cycle : List ℕ) → Memᴰ cycle ks
      → (w : SheetWord) × (lead : List ℕ) × Memᴰ w ws × (fault_of s w ≡ 0) × Tidy (letters (lead_of w) (cycle_of w)) lead cycle

-- a served call on the words ws: the answer v, and both slices before and after
pub record SheetServed (r : Rule) (ws : List SheetWord) (answers masks answers' masks' : List ℕ) (v : Result Totals Refusal) : Type 0 where
  -- 02: "the number of cycles filled, which must equal the number of distinct tidy cycles on the sheet"
  pub cycles : List (List ℕ)
  pub distinct : TidyCycles r.s ws cycles
  pub answered : v ≡ Ok (record { words = length ws; cycles = length cycles })
  -- 02: "Each word has an answer byte, in sheet order"
  pub words : (i : ℕ) → i < length ws → WordMeant r (get_or ws i (lone 0)) (get_or answers' i 0) (take 64 (drop (64 * i) masks'))
  -- 02: "fills lent slices from their start and leaves the rest as lent"
  pub answers_rest : drop (length ws) answers' ≡ drop (length ws) answers
  pub masks_rest : drop (64 * length ws) masks' ≡ drop (64 * length ws) masks

-- the answer v, and both slices before and after
pub record SheetJudged (f sheet answers masks answers' masks' : List ℕ) (v : Result Totals Refusal) : Type 0 where
  pub served : sheet_row f sheet (length answers) (length masks) ≡ 0 → SheetServed (rule_in f) (words_of sheet) answers masks answers' masks' v
  -- a refusal: "The answer is the number alone", and no lent slice changes
  pub refused : (k : Refusal) → first_refusal (sheet_call_rows f sheet (length answers) (length masks)) ≡ Err k → (v ≡ Err k) × (answers' ≡ answers) × (masks' ≡ masks)
