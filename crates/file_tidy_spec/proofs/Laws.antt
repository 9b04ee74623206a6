-- Laws of the tidy tool's definitions: the answer by the tests that led there.
use Prim.Native.Nat.{ℕ, zero, suc, ◌+◌, ◌*◌, ◌≤◌, ◌<◌}
use mathlib.Core.Path.{◌≡◌, refl, ap, sym, ◌∙◌}
use mathlib.Core.Logic.{◌⊎◌, inl, inr, ⊎_elim}
use mathlib.Core.Bool.{true}
use mathlib.Core.List.{List, ◌++◌}
use native.Mathlib.Omega.{arith}
use borrow.Author.Tests.{le-ltb, lt-ltb}
use lib.ListN.{length, length-append}
use Rattle.std.specs.Prelude.{Ok, Err}
use Rattle.std.specs.Result.{result_and}
use Rattle.refusals.specs.declared.Refusal.{Refusal}
use Rattle.refusals.specs.declared.Refusal.TheVariants.{Slice}
use Rattle.refusals.specs.Rows.{first_refusal, first_row}
use Rattle.sets.proofs.Bools.{bif}
use Rattle.refusals.proofs.Rows.{numbered, first-left, first-right, first-parts, row-passes, refused-suc, refusal_and, refusal-left, refusal-right}
use Rattle.theory.specs.Rule.{Rule}
use Rattle.theory.specs.Passing.{WellFormed, Passing}
use Rattle.rule_tidy_spec.specs.Tidy.{tidy_rule_lem}
use Rattle.rule_tidy_spec.proofs.Entries.{counts-length, clauses-length}
use Rattle.file_spec.specs.File.{trailer, part_before_lem, rule_in, body_of}
use Rattle.file_spec.specs.Names.{has_names_lem, names_before, preface_from}
use Rattle.file_spec.specs.Rows.{trailer_rows, layout_rows, name_rows, preface_rows}
use Rattle.file_spec.specs.RuleRows.{number_rows, list_rows, component_rows}
use Rattle.file_spec.proofs.Formed.{passing}
use Rattle.file_spec.proofs.Names.{fit-21, past-21, no_names, names-room, names-long, names-length, written_row}
use Rattle.file_read.proofs.Layouts.{length-body}
use Rattle.file_read.proofs.FileRows.{layout-numbered, laid-formed}
use Rattle.file_write_spec.proofs.Laws.{length-preface, preface-most}
use Rattle.file_write_spec.specs.Written.{slice_rows, after}
use Rattle.file_tidy_spec.specs.Tidied.{tidy_rows, tidy_file, call_rows, tidy_row, tidied_of, slice_tidied}

-- ---- the rule's rows but 20

module _ (f : List ℕ) where
  rows-numbered : numbered (tidy_rows f) ≡ true
  rows-numbered = unfold numbered tidy_rows layout_rows trailer_rows number_rows list_rows component_rows preface_rows name_rows in refl

  components-numbered : numbered (component_rows (rule_in f)) ≡ true
  components-numbered = unfold numbered component_rows in refl

  -- what they pass
  pub tidy-laid : first_row (tidy_rows f) ≡ 0 → first_row (layout_rows f) ≡ 0
  tidy-laid e = unfold tidy_rows in (first-parts (layout_rows f) _ (layout-numbered f) e).0

  past-laid : first_row (tidy_rows f) ≡ 0 → (first_row (component_rows (rule_in f)) ≡ 0) × (first_row (preface_rows (trailer f 1) (part_before_lem f)) ≡ 0)
  unfolding tidy_rows
  past-laid e = first-parts (component_rows (rule_in f)) _ components-numbered (first-parts (layout_rows f) _ (layout-numbered f) e).1

  pub tidy-served : first_row (tidy_rows f) ≡ 0 → Passing (rule_in f)
  tidy-served e = passing (rule_in f) (laid-formed f (tidy-laid e)) (past-laid e).0

  pub tidy-preface : first_row (tidy_rows f) ≡ 0 → first_row (preface_rows (trailer f 1) (part_before_lem f)) ≡ 0
  tidy-preface e = (past-laid e).1

  -- ---- what the tool answers and leaves in a slice that held old

  module _ (old : List ℕ) where
    pub refused_by : (r : Refusal) → first_refusal (tidy_rows f) ≡ Err r → (Err r ≡ tidied_of f (length old)) × (old ≡ slice_tidied f old)
    unfolding tidied_of slice_tidied tidy_row after
    refused_by r e =
        let g = refusal-left (tidy_rows f) (slice_rows (length old) (tidy_file f)) r e in
        let k = refused-suc (call_rows f (length old)) r g in (rw g refl, rw k.1 refl)

    -- where they pass, the slice alone decides
    pub served_by : first_refusal (tidy_rows f) ≡ Ok tt
        → (result_and (first_refusal (slice_rows (length old) (tidy_file f))) (Ok (length (tidy_file f))) ≡ tidied_of f (length old))
        × (after (first_row (slice_rows (length old) (tidy_file f))) (tidy_file f) old ≡ slice_tidied f old)
    unfolding tidied_of slice_tidied tidy_row
    served_by e =
        let n = row-passes (tidy_rows f) e in
        (rw (refusal-right (tidy_rows f) (slice_rows (length old) (tidy_file f)) e) refl, rw (first-right (tidy_rows f) (slice_rows (length old) (tidy_file f)) rows-numbered n) refl)

-- ---- row 16

module _ (file old : List ℕ) where
  pub short : length old < length file
      → (Err Slice ≡ result_and (first_refusal (slice_rows (length old) file)) (Ok (length file))) × (old ≡ after (first_row (slice_rows (length old) file)) file old)
  short l = unfold slice_rows first_row first_refusal after in rw (lt-ltb _ _ l) (refl, refl)

  pub enough : length file ≤ length old
      → (Ok (length file) ≡ result_and (first_refusal (slice_rows (length old) file)) (Ok (length file))) × (after 0 file old ≡ after (first_row (slice_rows (length old) file)) file old)
  enough l = unfold slice_rows first_row first_refusal in rw (le-ltb _ _ l) (refl, refl)

-- ---- the names of a preface that rows 21 to 23 pass

module _ (s : ℕ) (p : List ℕ) (e : first_row (preface_rows s p) ≡ 0) where
  pub names-whole : (length (names_before s p) ≡ 0) ⊎ (length (names_before s p) ≡ 8 * s)
  names-whole = bif (has_names_lem p) (λ h. inr (names-length s p h (fit-21 s p e))) (λ h. inl (ap length (no_names s p h)))

  pub names-few : s ≤ 16 → length (names_before s p) ≤ 128
  names-few l = ⊎_elim (λ z. omega arith) (λ z. omega arith) names-whole

  -- written as a whole preface they pass again
  pub names-pass : first_row (preface_rows s (preface_from (names_before s p))) ≡ 0
  names-pass = written_row s (names_before s p) names-whole ∙ (sym (past-21 s p (fit-21 s p e)) ∙ e)

  -- and are no longer than the preface
  pub names-shorter : length (preface_from (names_before s p)) ≤ length p
  names-shorter =
      bif (has_names_lem p)
      (λ h. omega (arith, preface-most (names_before s p), names-length s p h (fit-21 s p e), names-room s p h (fit-21 s p e), names-long s p h))
      (λ h. omega (arith, (length-preface (names_before s p)).0 (ap length (no_names s p h))))

-- ---- sizes

pub length-tidied : (p : List ℕ) (r : Rule) → length (p ++ body_of r) ≡ length p + length r.clauses + length r.counts + 8
length-tidied p r = omega (arith, length-append p (body_of r), length-body r)

module _ (r : Rule) (w : WellFormed r) where
  -- the tidied rule has as many entries and no more clauses
  pub tidied-entries : length (tidy_rule_lem r).counts ≡ length r.counts
  tidied-entries = unfold tidy_rule_lem in counts-length r.n r.counts r.clauses

  pub tidied-clauses : length (tidy_rule_lem r).clauses ≤ length r.clauses
  tidied-clauses = unfold tidy_rule_lem in omega (arith, clauses-length r.n r.counts r.clauses, w.all_clauses)

-- where nothing refuses, the rule's rows but 20 pass
pub rows-passed : (f : List ℕ) (room : ℕ) → tidy_row f room ≡ 0 → first_row (tidy_rows f) ≡ 0
rows-passed f room e = unfold tidy_row in (first-parts (tidy_rows f) _ (rows-numbered f) e).0
