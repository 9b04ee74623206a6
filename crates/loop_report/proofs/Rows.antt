-- The rows of the report, and what its answer and slice mean.
use mathlib.Core.Path.{◌≡◌, refl, sym, ◌∙◌, ap}
use mathlib.Core.Bool.{true}
use mathlib.Core.List.{List, [], ◌∷◌, ◌++◌}
use Prim.Native.Nat.{ℕ, zero, suc, ◌<◌}
use lib.ListN.{length, take, drop}
use lib.Seq.{take-append_seam}
use Rattle.refusals.specs.Rows.{number_of, first_refusal, first_row}
use Rattle.refusals.proofs.Rows.{number-above, refusal-at, refused-row, row-passes, numbered, first-left, first-right, first-parts}
use Rattle.theory.specs.Rule.{Rule}
use Rattle.file_spec.specs.File.{rule_in}
use Rattle.file_spec.specs.Rows.{layout_rows}
use Rattle.file_spec.specs.RuleRows.{clause_rows}
use Rattle.file_spec.proofs.FileParts.{clauses-part, counts-part}
use Rattle.file_spec.proofs.TrailerRows.{Placed, placed}
use Rattle.file_read.proofs.FileRows.{layout-numbered, laid, laid-formed, formed_passing}
use Rattle.loop_spec.specs.Loops.{Reported}
use Rattle.loop_spec.specs.Search.{loop_of}
use Rattle.std.specs.Prelude.{Option, Result, Ok, Err}
use Rattle.refusals.specs.declared.Refusal.{Refusal}
use native.Mathlib.Omega.{arith}
use Rattle.loop_spec.proofs.Reported.{reported}
use Rattle.loop_spec.specs.Reported.{slice_rows, formed_rows, report_row, answer, report_of, after, slice_after, told}

-- a refusal
pub answer-refused : (k : ℕ) (r : Refusal) (states : List ℕ) → k ≡ number_of r → Err r ≡ answer k states
unfolding answer
answer-refused zero r states e = let n = number-above r in absurd (omega arith)
answer-refused (suc k) r states e = ap Err (sym (refusal-at r k (sym e)))

pub after-refused : (k : ℕ) (states old : List ℕ) → (k ≡ 0 → ⊥) → old ≡ after k states old
unfolding after
after-refused zero states old n = absurd (n refl)
after-refused (suc k) states old n = refl

-- ---- row 20

clause-numbered : (r : Rule) → numbered (clause_rows r) ≡ true
unfolding numbered clause_rows
clause-numbered r = refl

pub row-clauses : (r : Rule) (room k : ℕ) → (k ≡ 0 → ⊥) → k ≡ first_row (clause_rows r) → k ≡ first_row (formed_rows r room)
unfolding formed_rows
row-clauses r room k n e = first-left (clause_rows r) (slice_rows (loop_of r) room) k n e

pub row-slice : (r : Rule) (room : ℕ) → first_row (clause_rows r) ≡ 0 → first_row (formed_rows r room) ≡ first_row (slice_rows (loop_of r) room)
unfolding formed_rows
row-slice r room e = first-right (clause_rows r) (slice_rows (loop_of r) room) (clause-numbered r) e

-- ---- rows 1 to 10

module _ (f : List ℕ) where
  pub row-layout : (room k : ℕ) → (k ≡ 0 → ⊥) → k ≡ first_row (layout_rows f) → k ≡ report_row f room
  unfolding report_row
  row-layout room k n e = first-left (layout_rows f) (formed_rows (rule_in f) room) k n e

  pub row-formed : (room : ℕ) → first_row (layout_rows f) ≡ 0 → report_row f room ≡ first_row (formed_rows (rule_in f) room)
  unfolding report_row
  row-formed room e = first-right (layout_rows f) (formed_rows (rule_in f) room) (layout-numbered f) e

  served-layout : (room : ℕ) → report_row f room ≡ 0 → first_row (layout_rows f) ≡ 0
  unfolding report_row
  served-layout room e = (first-parts (layout_rows f) (formed_rows (rule_in f) room) (layout-numbered f) e).0

  told-all : (states : List ℕ) → told (answer 0 states) ≡ length states
  unfolding told answer
  told-all [] = refl
  told-all (q ∷ ps) = refl

  -- What a served call tells is the reported loop.
  pub meant : (old new : List ℕ) (a : Result (Option ℕ) Refusal) → a ≡ report_of f (length old) → new ≡ slice_after f old → report_row f (length old) ≡ 0
      → Reported (rule_in f) (take (told a) new)
  unfolding report_of slice_after after
  meant old new a e w z =
      let states = loop_of (rule_in f) in
      let k : told a ≡ length states = ap told (e ∙ ap (λ (x : ℕ). answer x states) z) ∙ told-all states in
      let s : new ≡ states ++ drop (length states) old = w ∙ ap (λ (x : ℕ). after x states old) z in
      rw (k, s, take-append_seam states (drop (length states) old)) (reported (rule_in f) (laid-formed f (served-layout (length old) z)).few_states)

  -- the answer and the slice of a file that rows 1 to 10 refuse
  pub refused : (old : List ℕ) (r : Refusal) → first_refusal (layout_rows f) ≡ Err r → (Err r ≡ report_of f (length old)) × (old ≡ slice_after f old)
  unfolding report_of slice_after
  refused old r e =
      let k = number_of r in
      let n = number-above r in
      let m : k ≡ 0 → ⊥ = λ z. omega arith in
      rw (sym (row-layout (length old) k m (sym (refused-row (layout_rows f) r e)))) (answer-refused k r (loop_of (rule_in f)) refl, after-refused k (loop_of (rule_in f)) old m)

  -- of one that they pass
  pub passed : (old new : List ℕ) (a : Result (Option ℕ) Refusal) → first_row (layout_rows f) ≡ 0 → a ≡ answer (first_row (formed_rows (rule_in f) (length old))) (loop_of (rule_in f))
      → new ≡ after (first_row (formed_rows (rule_in f) (length old))) (loop_of (rule_in f)) old → (a ≡ report_of f (length old)) × (new ≡ slice_after f old)
  unfolding report_of slice_after
  passed old new a z e w = rw (row-formed (length old) z) (e, w)

-- what rows 1 to 10 give
pub laid_passing : (f : List ℕ) → first_refusal (layout_rows f) ≡ Ok tt → Placed f
laid_passing f e = placed f (laid f (row-passes (layout_rows f) e)).0

-- what the report on a file cites
pub ruleset reporting = (laid_passing, formed_passing, clauses-part, counts-part)
