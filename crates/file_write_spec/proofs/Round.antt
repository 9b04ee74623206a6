-- A rule that is written reads back as the same rule with the same names, which are its whole preface.
use Prim.Native.Nat.{ℕ, zero, suc, ◌-◌, ◌*◌}
use mathlib.Core.Path.{◌≡◌, refl, ap, ◌∙◌}
use mathlib.Core.Bool.{true}
use mathlib.Core.List.{List, ◌++◌}
use native.Mathlib.Omega.{arith}
use lib.ListN.{length, take, drop}
use lib.Seq.{take-append_seam}
use Rattle.refusals.specs.Rows.{first_row}
use Rattle.refusals.proofs.Rows.{first-parts}
use Rattle.theory.specs.Rule.{Rule}
use Rattle.rule_entries.specs.declared.Head.{Head}
use Rattle.rule_entries.specs.Entries.{rule_of}
use Rattle.file_spec.specs.File.{trailer, part_before_lem, names_of, rule_in, body_of}
use Rattle.file_spec.specs.Rows.{preface_row_lem, file_row}
use Rattle.file_spec.specs.Names.{names_tag, has_names_lem, preface_from}
use Rattle.file_spec.proofs.Names.{fit-21, names-split, names-length, given-whole, given-names, written_row, written-before}
use Rattle.file_spec.specs.Reading.{preface_of}
use Rattle.file_read.proofs.FileRows.{accepted-rows}
use Rattle.file_read.proofs.Accepted.{Bytes, preface-accepted, accepted-layout}
use Rattle.file_read.proofs.Layouts.{layout-accepted}
use Rattle.std.specs.Prelude.{Ok}
use Rattle.refusals.proofs.Rows.{answer-served}
use Rattle.file_write_spec.specs.Written.{given_rule_rows, file_of, write_rows, write_row, written_of, after, slice_after}
use Rattle.file_write_spec.proofs.Laws.{given-rows-numbered, given-parts, rule-served}

-- what a file has that reads as the rule r with these names, which are its whole preface
pub record ReadsAs (f : List ℕ) (r : Rule) (names : List ℕ) : Type 0 where
  pub accepted : file_row f ≡ 0
  pub rule : rule_in f ≡ r
  pub letters : names_of f ≡ names
  pub preface : preface_of f ≡ preface_from names

module _ (h : Head) (counts clauses names : List ℕ) where
  -- a rule that no row refuses, with names that none refuses
  pub file-reads : first_row (given_rule_rows h counts clauses names) ≡ 0 → ReadsAs (file_of h counts clauses names) (rule_of h counts clauses) names
  file-reads e =
      let t = given-parts h counts clauses names e in
      let p = rule-served h counts clauses t.0 in
      let w = given-whole h.s names t.1 in
      let a = layout-accepted (rule_of h counts clauses) p.0 p.1 (preface_from names) (written_row h.s names w ∙ given-names h.s names t.1) in
      record { accepted = a.0; rule = a.1; letters = a.3 ∙ written-before h.s names w; preface = a.2 }

  written-rows : (room : ℕ) → write_row h counts clauses names room ≡ 0 → first_row (given_rule_rows h counts clauses names) ≡ 0
  unfolding write_row
  written-rows room e = (first-parts (given_rule_rows h counts clauses names) _ (given-rows-numbered h counts clauses names) e).0

  -- The start of the slice, as long as the answer says, reads back as the rule and the names that were given.
  pub written-reads : (old : List ℕ) (m : ℕ) → written_of h counts clauses names (length old) ≡ Ok m
      → ReadsAs (take m (slice_after h counts clauses names old)) (rule_of h counts clauses) names
  unfolding written_of slice_after write_row after
  written-reads old m e =
      let p = answer-served (write_rows h counts clauses names (length old)) (length (file_of h counts clauses names)) m e in
      rw (p.0, p.1, take-append_seam (file_of h counts clauses names) (drop (length (file_of h counts clauses names)) old)) (file-reads (written-rows (length old) p.0))

-- The other way round: an accepted file with names is any bytes, then names of 8 bytes a letter, 4E 4D and the rest as they are written.
pub named-layout : (f : List ℕ) → Bytes f → file_row f ≡ 0 → has_names_lem (part_before_lem f) ≡ true
    → (f ≡ (take (length (part_before_lem f) - 2 - 8 * trailer f 1) (part_before_lem f) ++ (names_of f ++ names_tag)) ++ body_of (rule_in f)) × (length (names_of f) ≡ 8 * trailer f 1)
unfolding preface_row_lem
named-layout f bytes e h =
    let fit = fit-21 (trailer f 1) (part_before_lem f) (accepted-rows f e).1 in (
      accepted-layout f bytes e ∙ ap (λ (l : List ℕ). l ++ body_of (rule_in f)) (preface-accepted f e ∙ names-split (trailer f 1) (part_before_lem f) h fit),
      names-length (trailer f 1) (part_before_lem f) h fit,
    )
