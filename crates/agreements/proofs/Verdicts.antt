-- One law for every entry whose contract depends on the file by its row and its rule alone: a preface brings no other verdict, and a controller
-- in the field, which goes by the reader of 01, reaches the same.
use Prim.Native.Nat.{ℕ, zero, suc, ◌-◌}
use mathlib.Core.Path.{◌≡◌, refl, sym, ◌∙◌, ap}
use mathlib.Core.Bool.{true}
use mathlib.Core.List.{List, ◌++◌}
use mathlib.Core.Logic.{◌↔◌}
use native.Mathlib.Omega.{arith}
use Rattle.std.specs.Prelude.{Result, Ok, Err, ⊤}
use Rattle.refusals.specs.declared.Refusal.{Refusal}
use Rattle.refusals.specs.Rows.{Check, number_of, refusal_at, row_of, first_refusal, first_row}
use Rattle.refusals.proofs.Rows.{numbered, number-above, refusal-at, row-refusal}
use Rattle.theory.specs.Rule.{Rule}
use Rattle.file_spec.specs.File.{rule_in}
use Rattle.file_spec.specs.Rows.{file_rows_lem, file_row, preface_row_lem, old_rows}
use Rattle.file_read.proofs.RowAndRule.{holds-alike}
use Rattle.file_read.proofs.Prefaces.{holds_after, old-first}

-- by the number of the first row that refuses, or 0: what refuses
abbrev pub refusal_by : ℕ → Result ⊤ Refusal
refusal_by zero = Ok tt
refusal_by (suc k) = Err (refusal_at k)

by-number : (x : Result ⊤ Refusal) → x ≡ refusal_by (row_of x)
by-number (Ok u) = refl
by-number (Err r) =
    let n = number-above r in
    let e : number_of r ≡ suc (number_of r - 1) = omega arith in
    ap Err (sym (refusal-at r (number_of r - 1) e)) ∙ ap refusal_by (sym e)

pub by_row : (cs : List Check) → first_refusal cs ≡ refusal_by (first_row cs)
by_row cs = by-number (first_refusal cs) ∙ ap refusal_by (row-refusal cs)

-- the law of file_read/proofs/RowAndRule, both ways
pub both-alike : {R : Type 0} (rest : R → List Check) (xs ys : List Check) → numbered xs ≡ true → numbered ys ≡ true → (r t : R)
    → first_row xs ≡ first_row ys → (first_row ys ≡ 0 → r ≡ t) → (P : ℕ → R → Type 0) → ((k : ℕ) (u w : R) → P (suc k) u → P (suc k) w)
    → P (first_row (xs ++ rest r)) r ↔ P (first_row (ys ++ rest t)) t
both-alike rest xs ys nx ny r t rows read P alone = (
  holds-alike rest xs ys nx ny r t rows read P alone,
  holds-alike rest ys xs ny nx t r (sym rows) (λ e. sym (read (sym rows ∙ e))) P alone,
)

-- bytes p before a file f, where the file by itself is not too short (rows 1 and 7) and no name is refused
pub record Before (p f : List ℕ) : Type 0 where
  pub long : file_row f ≡ 1 → ⊥
  pub fits : file_row f ≡ 7 → ⊥
  pub names : preface_row_lem f ≡ 0
  pub names-after : preface_row_lem (p ++ f) ≡ 0

-- what a contract says of a file is said by the first of its rows and those of its rule that refuses, and by the rule
module _ (C : List ℕ → Type 0) (rest : Rule → List Check) (By : ℕ → Rule → Type 0) where
  pub record SameVerdicts : Type 0 where
    -- 02: "a preface can bring a refusal or a name but still no other verdict"
    pub preface : (p f : List ℕ) → Before p f → C (p ++ f) ↔ C f
    -- 02: "On a file that the new readers accept, both must reach equal verdicts."
    pub in-the-field : (f : List ℕ) → file_row f ≡ 0 → By (first_row (old_rows f ++ rest (rule_in f))) (rule_in f) ↔ C f

module _ {C : List ℕ → Type 0} {rest : Rule → List Check} {By : ℕ → Rule → Type 0}
    (alone : (k : ℕ) (r t : Rule) → By (suc k) r → By (suc k) t) (by : (f : List ℕ) → C f ↔ By (first_row (file_rows_lem f ++ rest (rule_in f))) (rule_in f)) where
  pub same-verdicts : SameVerdicts C rest By
  same-verdicts = record {
    preface = λ p f B. let h = holds_after rest p f B.long B.fits B.names B.names-after By alone in
        (λ x. (by f).1 (h.0 ((by (p ++ f)).0 x)), λ x. (by (p ++ f)).1 (h.1 ((by f).0 x)));
    in-the-field = λ f e. rw (old-first rest f e) ((by f).1, (by f).0);
  }
