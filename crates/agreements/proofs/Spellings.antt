-- The answers of both judges do not change with the spelling of a word.
use mathlib.Core.Path.{◌≡◌, ap, subst, fun_ext}
use mathlib.Core.List.{List}
use Prim.Native.Nat.{ℕ}
use lib.ListN.{length, get_or}
use Rattle.sets.specs.Masks.{bit}
use Rattle.std.specs.Prelude.{Result, Ok, Option}
use Rattle.refusals.specs.declared.Refusal.{Refusal}
use Rattle.refusals.proofs.Rows.{first-parts, refusal-passes}
use Rattle.theory.specs.Macrostate.{holds_initial}
use Rattle.theory.specs.Passing.{Passing}
use Rattle.theory.specs.Run.{AcceptingRun}
use Rattle.theory.specs.Truth.{truth_masks}
use Rattle.theory.specs.Word.{next_place_lem, place, letters, WordOver}
use Rattle.file_spec.specs.File.{rule_in}
use Rattle.file_spec.specs.Rows.{file_rows_lem, file_row}
use Rattle.file_read.proofs.FileRows.{file-numbered, accepted-passing}
use Rattle.word_rows.proofs.Checks.{word_over}
use Rattle.word_spelling_spec.specs.Spelling.{Agree}
use Rattle.word_spelling_spec.proofs.Truths.{mask-spelled}
use Rattle.judge_spec.specs.Judge.{judge_rows, judge_row, judge_of, judge_call_row, verdict}
use Rattle.judge_spec.proofs.Rows.{call_passes}
use Rattle.table_lent.specs.Lent.{Lent}
use Rattle.table_call.specs.Calls.{Answered}
use Rattle.table_judge.specs.Tables.{judge_table_rows, judge_table_row, JudgedTable}
use Rattle.agreements.proofs.Joined.{one_answer}

-- what a call that is not refused tells of its rule and its word
record Served (f lead cycle : List ℕ) : Type 0 where
  rule : Passing (rule_in f)
  word : WordOver (rule_in f).s lead cycle

served : (f lead cycle : List ℕ) (m : ℕ) → judge_row f lead cycle m ≡ 0 → Served f lead cycle
unfolding judge_row file_row judge_call_row
served f lead cycle m e =
    let p = first-parts (file_rows_lem f) _ (file-numbered f) e in
    record { rule = accepted-passing f p.0; word = word_over (rule_in f).s lead cycle (call_passes (rule_in f) lead cycle m p.1).word }

module _ (f l₁ c₁ l₂ c₂ : List ℕ) (same : Agree l₁ c₁ l₂ c₂) where
  module _ (m n : ℕ) (e₁ : judge_row f l₁ c₁ m ≡ 0) (e₂ : judge_row f l₂ c₂ n ≡ 0) where
    -- the judge on the rule: the mask of each step
    pub masks-spelled : (i : ℕ) → get_or (truth_masks (rule_in f) l₁ c₁) (place (next_place_lem l₁ c₁) i) 0 ≡ get_or (truth_masks (rule_in f) l₂ c₂) (place (next_place_lem l₂ c₂) i) 0
    masks-spelled =
        mask-spelled l₁ c₁ l₂ c₂ same (rule_in f) (served f l₁ c₁ m e₁).rule (served f l₁ c₁ m e₁).word.repeats (served f l₂ c₂ n e₂).word.repeats

    -- and the answer
    pub judge-spelled : judge_of f l₁ c₁ m ≡ judge_of f l₂ c₂ n
    unfolding judge_of judge_row place
    judge-spelled =
        rw (refusal-passes (judge_rows f l₁ c₁ m) e₁, refusal-passes (judge_rows f l₂ c₂ n) e₂) (ap (λ (z : ℕ). verdict (Ok tt) (bit z (rule_in f).initial)) (masks-spelled 0))

  -- the judge on a table: whether it says yes, and the number
  pub table-spelled : (codes transitions : Lent) (old₁ new₁ old₂ new₂ : List ℕ) (a b : Result (Option ℕ) Refusal)
      → JudgedTable f l₁ c₁ codes transitions old₁ new₁ a → judge_table_row f l₁ c₁ codes transitions (length old₁) ≡ 0
      → JudgedTable f l₂ c₂ codes transitions old₂ new₂ b → judge_table_row f l₂ c₂ codes transitions (length old₂) ≡ 0
      → a ≡ b
  unfolding judge_table_row
  table-spelled codes transitions old₁ new₁ old₂ new₂ a b A e B g =
      let begins : (ℕ → ℕ) → ℕ → Type 0 = λ w m. (x : ℕ → ℕ) × (x 0 ≡ m) × AcceptingRun codes.numbers transitions.numbers (holds_initial (rule_in f)) w x in
      let first : Answered (Ok tt) (begins (letters l₁ c₁)) a = rw (refusal-passes (judge_table_rows f l₁ c₁ codes transitions (length old₁)) e) at A.answer in
      let second : Answered (Ok tt) (begins (letters l₂ c₂)) b = rw (refusal-passes (judge_table_rows f l₂ c₂ codes transitions (length old₂)) g) at B.answer in
      one_answer (Ok tt) (begins (letters l₂ c₂)) a b (subst (λ (w : ℕ → ℕ). Answered (Ok tt) (begins w) a) (fun_ext same) first) second
