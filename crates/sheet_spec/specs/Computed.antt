-- What the judge of a sheet of words answers and writes, computed. What that means, by plans and tidy spellings, is `SheetJudged` (Judged), proved of it in
-- sheet_laws/proofs/Meaning, so what stands here has not to be believed.
use Rattle.std.specs.Prelude.{◌≡◌, ◌⊎◌, Bool, true, false, ℕ, zero, suc, ◌+◌, ◌-◌, length, take, drop, replicate}
use mathlib.Core.List.{List, [], ◌∷◌, ◌++◌, map, Memᴰ}
use Rattle.sets.specs.Tests.{one}
use Rattle.theory.specs.Rule.{Rule}
use Rattle.theory.specs.Truth.{truth_masks}
use Rattle.theory.specs.Word.{places}
use Rattle.file_spec.specs.File.{rule_in}
use Rattle.judge_spec.specs.Judge.{holds_start, judge_row, judge_of, after}
use Rattle.slice_search.specs.Same.{same_lists}
use Rattle.word_spelling_spec.specs.SpellingComputed.{tidy_cycle}
use Rattle.sheet_spec.specs.Words.{SheetWord, spelled, words_of, lead_of, cycle_of, fault_of}
use Rattle.sheet_spec.specs.Sheet.{byte_of, sheet_call_rows, sheet_row}
use Rattle.sheet_spec.specs.Judged.{Once}
use Rattle.sheet_spec.specs.declared.Totals.{Totals}
use Rattle.std.specs.Prelude.{Result, Ok, Err, ⊤}
use Rattle.refusals.specs.Rows.{first_refusal}
use Rattle.refusals.specs.declared.Refusal.{Refusal}

-- ---- one word

module _ (r : Rule) where
  -- by the word's own number, or 0. 02: "Each word has an answer byte ..: 0 no, 1 yes, or a faulty word's own number."
  abbrev pub answer_by : ℕ → SheetWord → ℕ
  answer_by zero w = one (holds_start r (lead_of w) (cycle_of w))
  answer_by (suc k) w = suc k

  unfoldable pub answer_of : SheetWord → ℕ
  answer_of w = answer_by (fault_of r.s w) w

  -- 02: "Each word has 64 mask bytes, those past its places zero, a faulty word's all zero."
  abbrev pub masks_by : ℕ → SheetWord → List ℕ
  masks_by zero w = truth_masks r (lead_of w) (cycle_of w) ++ replicate (64 - places (lead_of w) (cycle_of w)) 0
  masks_by (suc k) w = replicate 64 0

  unfoldable pub masks_of_lem : SheetWord → List ℕ
  masks_of_lem w = masks_by (fault_of r.s w) w

  unfoldable pub all_masks : List SheetWord → List ℕ
  all_masks [] = []
  all_masks (w ∷ ws) = masks_of_lem w ++ all_masks ws

-- ---- the cycles

-- whether a cycle is one of those known
unfoldable pub is_known : List ℕ → List (List ℕ) → Bool
is_known c [] = false
is_known c (k ∷ ks) = elim (same_lists k c) [ true ↦ true | false ↦ is_known c ks ]

-- the cycles known after one more
unfoldable pub learn : List (List ℕ) → List ℕ → List (List ℕ)
learn ks c = elim (is_known c ks) [ true ↦ ks | false ↦ ks ++ (c ∷ []) ]

-- by the word's own number, or 0. 02: "A faulty word adds no cycle to the count"
abbrev pub learn_by : ℕ → List (List ℕ) → SheetWord → List (List ℕ)
learn_by zero ks w = learn ks (tidy_cycle (lead_of w) (cycle_of w))
learn_by (suc k) ks w = ks

-- over s letters, the distinct tidy cycles of the words, after those known, each once
unfoldable pub cycles_after : ℕ → List (List ℕ) → List SheetWord → List (List ℕ)
cycles_after s ks [] = ks
cycles_after s ks (w ∷ ws) = cycles_after s (learn_by (fault_of s w) ks w) ws

-- 02: "the number of cycles filled, which must equal the number of distinct tidy cycles on the sheet"
unfoldable pub cycle_count : ℕ → List SheetWord → ℕ
cycle_count s ws = length (cycles_after s [] ws)

-- the tidy cycle of a word
abbrev pub tidy_of_lem : SheetWord → List ℕ
tidy_of_lem w = tidy_cycle (lead_of w) (cycle_of w)

-- the cycles ks are those known before and the tidy cycles of the words that are not faulty, each once
pub record Counted (s : ℕ) (known : List (List ℕ)) (ws : List SheetWord) (ks : List (List ℕ)) : Type 0 where
  pub once : Once ks
  pub old : (c : List ℕ) → Memᴰ c known → Memᴰ c ks
  pub all : (w : SheetWord) → Memᴰ w ws → fault_of s w ≡ 0 → Memᴰ (tidy_of_lem w) ks
  pub only : (c : List ℕ) → Memᴰ c ks
      → (Memᴰ c known ⊎ ((w : SheetWord) × Memᴰ w ws × (fault_of s w ≡ 0) × (c ≡ tidy_of_lem w)))

-- ---- the sheet

-- by what refuses: the number of words and of cycles filled, or the refusal alone
abbrev pub totals : Result ⊤ Refusal → ℕ → ℕ → Result Totals Refusal
totals (Ok _) words cycles = Ok (record { words = words; cycles = cycles })
totals (Err r) words cycles = Err r

unfoldable pub sheet_of : List ℕ → List ℕ → ℕ → ℕ → Result Totals Refusal
sheet_of f sheet answers masks = totals (first_refusal (sheet_call_rows f sheet answers masks)) (length (words_of sheet)) (cycle_count (rule_in f).s (words_of sheet))

-- 02: "Answer the sheet as if each word were judged alone": the answer byte of a word that is all there is the judge's,
-- and its mask bytes are what the judge makes of 64 zeros
pub record Alone (f : List ℕ) (a b : ℕ) (t : List ℕ) : Type 0 where
  pub answer : answer_of (rule_in f) (spelled a b t) ≡ byte_of (judge_of f (take a t) (drop a t) 64)
  pub masks : masks_of_lem (rule_in f) (spelled a b t)
      ≡ after (judge_row f (take a t) (drop a t) 64) (truth_masks (rule_in f) (take a t) (drop a t)) (replicate 64 0)

-- the answer v, and both slices before and after
pub record SheetComputed (f sheet answers masks answers' masks' : List ℕ) (v : Result Totals Refusal) : Type 0 where
  pub answered : v ≡ sheet_of f sheet (length answers) (length masks)
  pub answers_written : answers' ≡ after (sheet_row f sheet (length answers) (length masks)) (map (answer_of (rule_in f)) (words_of sheet)) answers
  pub masks_written : masks' ≡ after (sheet_row f sheet (length answers) (length masks)) (all_masks (rule_in f) (words_of sheet)) masks
  pub alone : sheet_row f sheet (length answers) (length masks) ≡ 0 → (a b : ℕ) (t : List ℕ) → length t ≡ a + b → Alone f a b t
