-- What the answer of a call is for the file.
use mathlib.Core.Path.{◌≡◌, refl, sym, ap, ◌∙◌, subst}
use mathlib.Core.List.{List}
use Prim.Native.Nat.{ℕ, zero, suc, ◌<◌}
use native.Mathlib.Omega.{arith}
use lib.ListN.{length}
use Rattle.sets.specs.Masks.{bit}
use Rattle.theory.specs.Macrostate.{holds_initial}
use Rattle.theory.specs.Passing.{Passing}
use Rattle.theory.specs.Rule.{Rule}
use Rattle.rule_entries.specs.Entries.{rule_of}
use Rattle.file_spec.specs.declared.Layout.{Layout}
use Rattle.file_spec.specs.File.{counts_of_lem, clauses_of_lem}
use Rattle.file_spec.specs.Rows.{file_rows_lem, file_row}
use Rattle.std.specs.Prelude.{Result, Ok, Err, Option}
use Rattle.refusals.specs.Rows.{number_of, row_of, first_refusal}
use Rattle.refusals.specs.declared.Refusal.{Refusal}
use Rattle.refusals.proofs.Rows.{number-above, row-refusal, refusal-passes}
use Rattle.file_read.proofs.Answer.{Served}
use Rattle.table_lent.specs.Lent.{Lent}
use Rattle.table_call.specs.Calls.{call_row_lem, TableCalled}
use Rattle.table_call.proofs.Calls.{leaves}
use Rattle.table_judge.specs.Tables.{judge_table_rows, judge_table_row, JudgedTable}
use Rattle.table_judge.proofs.Rows.{file-refuses, file-passes}

module _ {f lead cycle : List ℕ} {codes transitions : Lent} {old : List ℕ} where
  pub judged-refused : (r : Refusal) → first_refusal (file_rows_lem f) ≡ Err r → JudgedTable f lead cycle codes transitions old old (Err r)
  unfolding judge_table_row
  judged-refused r e =
      let h = file-refuses f lead cycle codes transitions (length old) r e in
      let k = sym (row-refusal (judge_table_rows f lead cycle codes transitions (length old))) ∙ ap row_of h in
      record { answer = rw h refl; scratch = rw k (leaves (number_of r) (number-above r) old) }

  -- what the answer for the head that was read is for the file
  pub judged-called : {l : Layout} {new : List ℕ} {a : Result (Option ℕ) Refusal} → Served f l → TableCalled l.head.s (λ c. bit c l.head.initial) lead cycle codes transitions old new a
      → JudgedTable f lead cycle codes transitions old new a
  unfolding judge_table_row call_row_lem
  judged-called {new = new} {a} S C =
      let e = file-passes f lead cycle codes transitions (length old) (refusal-passes (file_rows_lem f) (unfold file_row in S.row)) in
      let D = subst (λ (r : Rule). TableCalled r.s (holds_initial r) lead cycle codes transitions old new a) S.rule C in
      let k = sym (row-refusal _) ∙ ap row_of e ∙ row-refusal _ in
      record { answer = rw e D.answer; scratch = rw k D.scratch }

-- the initial state of an accepted file's rule is below 8
pub initial-low : (f : List ℕ) (l : Layout) → Served f l → l.head.initial < 8
initial-low f l S =
    let P : Passing (rule_of l.head (counts_of_lem f) (clauses_of_lem f)) = rw S.rule S.passing in
    omega (arith, P.formed.initial_state, P.formed.few_states)
