-- The rows of a file: what an accepted file has, and the first row that applies.
use Prim.Native.Nat.{ℕ, ◌<◌}
use mathlib.Core.Path.{◌≡◌, refl, ◌∙◌}
use mathlib.Core.Bool.{true, false}
use mathlib.Core.List.{List}
use mathlib.Core.Logic.{◌↔◌}
use Rattle.std.specs.Prelude.{Ok}
use Rattle.refusals.specs.Rows.{first_refusal, first_row}
use Rattle.refusals.proofs.Rows.{FirstApplies, NoneApplies, first-row-iff, no-row-iff, numbered, numbered-rows, first-left, first-right, first-parts, row-passes, refusal_and}
use Rattle.theory.specs.Passing.{WellFormed, Passing}
use Rattle.file_spec.specs.File.{head_of, trailer, rule_in, clauses_of_lem, counts_of_lem}
use Rattle.file_spec.specs.Rows.{trailer_rows, layout_rows, body_rows, body_row}
use Rattle.file_spec.specs.RuleRows.{number_rows, list_rows, some_nested, clause_rows, component_rows, formed_rows}
use Rattle.file_spec.specs.Rows.{name_rows, preface_rows, preface_row_lem, file_rows_lem, file_row, old_rows, old_row}
use Rattle.file_spec.proofs.TrailerRows.{Placed, placed, trailer-numbered, trailer-numbers}
use Rattle.file_spec.proofs.FileParts.{clauses-part, counts-part, counts-length}
use Rattle.file_spec.proofs.Formed.{formed, formed-parts, formed-passing, formed-apart}

pub layout-numbered : (f : List ℕ) → numbered (layout_rows f) ≡ true
layout-numbered f = unfold numbered layout_rows trailer_rows number_rows list_rows in refl

pub body-numbered : (f : List ℕ) → numbered (body_rows f) ≡ true
body-numbered f = unfold numbered body_rows layout_rows trailer_rows number_rows list_rows formed_rows clause_rows component_rows in refl

pub file-numbered : (f : List ℕ) → numbered (file_rows_lem f) ≡ true
unfolding numbered file_rows_lem body_rows layout_rows trailer_rows number_rows list_rows formed_rows clause_rows component_rows preface_rows name_rows
file-numbered f = refl

pub old-numbered : (f : List ℕ) → numbered (old_rows f) ≡ true
old-numbered f = unfold numbered old_rows layout_rows trailer_rows number_rows list_rows component_rows in refl

module _ (f : List ℕ) where
  -- what rows 1 to 10 give
  pub laid : first_row (layout_rows f) ≡ 0 → (first_row (trailer_rows f) ≡ 0) × (first_row (list_rows (trailer f 0) (counts_of_lem f) (clauses_of_lem f)) ≡ 0)
  laid e = unfold layout_rows in first-parts (trailer_rows f) _ (trailer-numbered f) e

  pub laid-formed : first_row (layout_rows f) ≡ 0 → WellFormed (rule_in f)
  laid-formed e =
      let r = laid e in
      let p = placed f r.0 in
      formed (head_of f) (counts_of_lem f) (clauses_of_lem f) (trailer-numbers f r.0) (counts-length f p.fits) r.1

  -- the same, of what `?` passes
  pub placed_passing : first_refusal (trailer_rows f) ≡ Ok tt → Placed f
  placed_passing e = placed f (row-passes (trailer_rows f) e)

  pub formed_passing : first_refusal (layout_rows f) ≡ Ok tt → WellFormed (rule_in f)
  formed_passing e = laid-formed (row-passes (layout_rows f) e)

  pub rows-layout : (k : ℕ) → (k ≡ 0 → ⊥) → k ≡ first_row (layout_rows f) → k ≡ body_row f
  rows-layout k n e = unfold body_row body_rows in first-left (layout_rows f) _ k n e

  pub rows-formed : first_row (layout_rows f) ≡ 0 → body_row f ≡ first_row (formed_rows (rule_in f))
  rows-formed e = unfold body_row body_rows in first-right (layout_rows f) _ (layout-numbered f) e

  -- ---- what rows 1 to 11 and 20 pass

  body-parts : body_row f ≡ 0 → (first_row (layout_rows f) ≡ 0) × (first_row (formed_rows (rule_in f)) ≡ 0)
  body-parts e = unfold body_row body_rows in first-parts (layout_rows f) _ (layout-numbered f) e

  pub body-placed : body_row f ≡ 0 → Placed f
  body-placed e = placed f (laid (body-parts e).0).0

  pub body-passing : body_row f ≡ 0 → Passing (rule_in f)
  body-passing e = let r = body-parts e in formed-passing (rule_in f) (laid-formed r.0) r.1

  -- ---- then rows 21 to 23

  pub rows-body : (k : ℕ) → (k ≡ 0 → ⊥) → k ≡ body_row f → k ≡ file_row f
  rows-body k n e = unfold body_row file_row file_rows_lem in first-left (body_rows f) _ k n e

  pub rows-preface : body_row f ≡ 0 → file_row f ≡ preface_row_lem f
  rows-preface e = unfold body_row preface_row_lem file_row file_rows_lem in first-right (body_rows f) _ (body-numbered f) e

  -- ---- an accepted file

  pub accepted-rows : file_row f ≡ 0 → (body_row f ≡ 0) × (preface_row_lem f ≡ 0)
  accepted-rows e = unfold body_row preface_row_lem file_row file_rows_lem in first-parts (body_rows f) _ (body-numbered f) e

  pub accepted-placed : file_row f ≡ 0 → Placed f
  accepted-placed e = body-placed (accepted-rows e).0

  -- The rule of an accepted file passes every check of 01, and none of its entries has a clause that contains another.
  pub accepted-passing : file_row f ≡ 0 → Passing (rule_in f)
  accepted-passing e = body-passing (accepted-rows e).0

  pub accepted-apart : file_row f ≡ 0 → some_nested (rule_in f) ≡ false
  accepted-apart e = formed-apart (rule_in f) (body-parts (accepted-rows e).0).1

  -- 02: "On a file that the new readers accept, both must reach equal verdicts.": the reader of 01 accepts it too
  pub old-accepts : file_row f ≡ 0 → old_row f ≡ 0
  unfolding old_row old_rows
  old-accepts e = let r = body-parts (accepted-rows e).0 in first-right _ _ (layout-numbered f) r.0 ∙ (formed-parts _ r.1).1

  -- A row's number is answered exactly if the row applies and none before it.
  pub file-row-iff : (k : ℕ) → 0 < k → (file_row f ≡ k) ↔ FirstApplies (file_rows_lem f) k
  file-row-iff k p = unfold file_row in first-row-iff (file_rows_lem f) k p

  -- A file is accepted exactly if no row applies.
  pub file-accepted-iff : (file_row f ≡ 0) ↔ NoneApplies (file_rows_lem f)
  file-accepted-iff = unfold file_row in no-row-iff (file_rows_lem f) (numbered-rows (file_rows_lem f) (file-numbered f))

-- what the rows that read a file cite
pub ruleset laying = (refusal_and, placed_passing, formed_passing, clauses-part, counts-part, counts-length)
