-- The tool's file is accepted and read as the tidied rule with the same names; tidying it again gives the same file, and an accepted file's rule is unchanged.
use Prim.Native.Nat.{ℕ, zero, suc, ◌+◌, ◌≤◌}
use mathlib.Core.Path.{◌≡◌, refl, ap, ap₂, sym, ◌∙◌}
use mathlib.Core.Logic.{◌↔◌}
use mathlib.Core.List.{List, ◌++◌}
use native.Mathlib.Omega.{arith}
use lib.ListN.{length, take, drop, length-take}
use lib.Seq.{take-append_seam}
use Rattle.refusals.specs.Rows.{first_row}
use Rattle.theory.specs.Rule.{Rule}
use Rattle.theory.specs.Word.{WordOver}
use Rattle.theory.specs.Plan.{AcceptsFrom}
use Rattle.theory.specs.Truth.{truth_masks}
use Rattle.rule_tidy_spec.specs.Tidy.{tidy_rule_lem}
use Rattle.rule_tidy_spec.proofs.Rules.{rule-unnested, tidy-passing, unnested-rule, tidy-twice}
use Rattle.rule_tidy_spec.proofs.Plans.{tidy-accepts-from, tidy-masks}
use Rattle.file_spec.specs.File.{trailer, clauses_at, part_before_lem, names_of, rule_in, body_of}
use Rattle.file_spec.specs.Names.{preface_from}
use Rattle.file_spec.specs.Rows.{file_row}
use Rattle.file_spec.proofs.Names.{written-before}
use Rattle.file_spec.proofs.FileParts.{clauses-length, counts-length}
use Rattle.file_spec.proofs.TrailerRows.{placed}
use Rattle.file_read.proofs.FileRows.{laid, accepted-passing, accepted-apart}
use Rattle.file_read.proofs.Layouts.{layout-accepted}
use Rattle.file_write_spec.specs.Written.{after}
use Rattle.file_write_spec.proofs.Round.{ReadsAs}
use Rattle.std.specs.Prelude.{Result, Ok}
use Rattle.refusals.specs.declared.Refusal.{Refusal}
use Rattle.refusals.proofs.Rows.{answer-served}
use Rattle.file_tidy_spec.specs.Tidied.{tidy_rows, tidy_file, call_rows, tidy_row, tidied_of, slice_tidied, TidyMeant, TidyCalled}
use Rattle.file_tidy_spec.proofs.Laws.{tidy-laid, tidy-served, tidy-preface, rows-passed, names-whole, names-pass, names-shorter, length-tidied, tidied-entries, tidied-clauses}

-- a file that the rule's rows but 20 pass
module _ (f : List ℕ) (e : first_row (tidy_rows f) ≡ 0) where
  -- The tool's file is accepted, row 20 included, and reads as the tidied rule with the file's names, which are its whole preface.
  pub tidied-reads : ReadsAs (tidy_file f) (tidy_rule_lem (rule_in f)) (names_of f)
  unfolding tidy_rule_lem
  tidied-reads =
      let P = tidy-served f e in
      let n = tidy-preface f e in
      let a = layout-accepted (tidy_rule_lem (rule_in f)) (tidy-passing (rule_in f) P) (rule-unnested (rule_in f) P.formed.clause_states) (preface_from (names_of f))
      (names-pass (trailer f 1) (part_before_lem f) n) in
      record {
        accepted = a.0;
        rule = a.1;
        letters = a.3 ∙ written-before (trailer f 1) (names_of f) (names-whole (trailer f 1) (part_before_lem f) n);
        preface = a.2;
      }

  -- It is no longer than the file.
  pub tidied-shorter : length (tidy_file f) ≤ length f
  tidied-shorter =
      let w = (tidy-served f e).formed in
      let p = placed f (laid f (tidy-laid f e)).0 in
      omega (
        arith,
        length-tidied (preface_from (names_of f)) (tidy_rule_lem (rule_in f)),
        names-shorter (trailer f 1) (part_before_lem f) (tidy-preface f e),
        length-take (clauses_at f) f,
        tidied-entries (rule_in f) w,
        tidied-clauses (rule_in f) w,
        clauses-length f p.fits,
        counts-length f p.fits,
        p.fits,
        p.long,
      )

  -- Tidied again it stays as it is.
  pub tidied-twice : tidy_file (tidy_file f) ≡ tidy_file f
  tidied-twice =
      ap₂ (λ (names : List ℕ) (r : Rule). preface_from names ++ body_of (tidy_rule_lem r)) tidied-reads.letters tidied-reads.rule
      ∙ ap (λ (r : Rule). preface_from (names_of f) ++ body_of r) (tidy-twice (rule_in f) (tidy-served f e).formed)

  -- 02: "equal truth masks on all words", and acceptance by plans from the same pairs
  pub tidied-masks : (lead cycle : List ℕ) → WordOver (rule_in f).s lead cycle → truth_masks (rule_in (tidy_file f)) lead cycle ≡ truth_masks (rule_in f) lead cycle
  tidied-masks lead cycle W = ap (λ (r : Rule). truth_masks r lead cycle) tidied-reads.rule ∙ tidy-masks (rule_in f) (tidy-served f e) lead cycle W

  pub tidied-accepts : (lead cycle : List ℕ) (q p : ℕ) → AcceptsFrom (rule_in (tidy_file f)) lead cycle q p ↔ AcceptsFrom (rule_in f) lead cycle q p
  tidied-accepts lead cycle q p = rw tidied-reads.rule (tidy-accepts-from (rule_in f) (tidy-served f e).formed.clause_states lead cycle q p)

  tidied-meant : TidyMeant f (tidy_file f)
  tidied-meant = record { accepted = tidied-reads.accepted; rule = tidied-reads.rule; names = tidied-reads.letters; masks = tidied-masks; pairs = tidied-accepts }

-- The start of the slice, as long as the answer says, is the tool's file.
pub tidied-slice : (f old : List ℕ) (m : ℕ) → tidied_of f (length old) ≡ Ok m → TidyMeant f (take m (slice_tidied f old))
unfolding tidied_of slice_tidied tidy_row after
tidied-slice f old m e =
    let p = answer-served (call_rows f (length old)) (length (tidy_file f)) m e in
    rw (p.0, p.1, take-append_seam (tidy_file f) (drop (length (tidy_file f)) old)) (tidied-meant f (rows-passed f (length old) p.0))

pub tidy-called : (f old new : List ℕ) (a : Result ℕ Refusal) → a ≡ tidied_of f (length old) → new ≡ slice_tidied f old → TidyCalled f old new a
tidy-called f old new a e w = record { answer = e; written = w; meant = λ m l. rw w (tidied-slice f old m (sym e ∙ l)) }

-- An accepted file's rule is unchanged.
pub accepted-unchanged : (f : List ℕ) → file_row f ≡ 0 → tidy_rule_lem (rule_in f) ≡ rule_in f
accepted-unchanged f e = unnested-rule (rule_in f) (accepted-passing f e).formed (accepted-apart f e)
