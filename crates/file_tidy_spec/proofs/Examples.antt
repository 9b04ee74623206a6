-- The tidy tool on worked examples, computed from the definitions.
use Prim.Native.Nat.{ℕ}
use mathlib.Core.Path.{◌≡◌, refl}
use mathlib.Core.List.{List, [], ◌∷◌}
use Rattle.rule_tidy_spec.specs.Tidy.{properly_contains, drops, tidy_from, tidy_entry_lem, tidy_counts, tidy_clauses, tidy_rule_lem}
use Rattle.file_spec.specs.File.{trailer_of, body_of}
use Rattle.file_spec.specs.Names.{preface_from}
use Rattle.file_spec.specs.Rows.{file_row}
use Rattle.file_spec.proofs.Examples.{rows_computed}
use Rattle.file_write_spec.specs.Written.{slice_rows, after}
use Rattle.std.specs.Prelude.{Ok, Err}
use Rattle.refusals.specs.Rows.{first_refusal}
use Rattle.refusals.specs.declared.Refusal.TheVariants.{Mixed, Slice}
use Rattle.file_tidy_spec.specs.Tidied.{tidy_rows, tidy_row, tidied_of, slice_tidied}

-- what the evaluation of a tidying unfolds
unfoldable tidying : ℕ
unfolding tidied_of first_refusal slice_tidied after tidy_row tidy_rows slice_rows body_of trailer_of tidy_rule_lem tidy_counts tidy_clauses tidy_entry_lem tidy_from drops properly_contains preface_from rows_computed
tidying = 0

-- two states and one letter, state 0 by clause 03, state 1 by clauses 01 and 00, with a preface of one byte; a is the accepting mask
abbrev pub loose : ℕ → List ℕ
loose a = 0xff ∷ 0x03 ∷ 0x01 ∷ 0x00 ∷ 0x01 ∷ 0x02 ∷ 0x02 ∷ 0x01 ∷ 0x00 ∷ a ∷ 0x03 ∷ 0x00 ∷ 0x41 ∷ 0x57 ∷ []

-- 20 turns it away; the tool does not try 20, writes it without 01 and without the preface, and touches nothing after that
pub tidies : (file_row (loose 0) ≡ 20) × (tidied_of (loose 0) 14 ≡ Ok 12)
    × (slice_tidied (loose 0) (7 ∷ 7 ∷ 7 ∷ 7 ∷ 7 ∷ 7 ∷ 7 ∷ 7 ∷ 7 ∷ 7 ∷ 7 ∷ 7 ∷ 8 ∷ 9 ∷ [])
    ≡ 0x03 ∷ 0x00 ∷ 0x01 ∷ 0x01 ∷ 0x02 ∷ 0x01 ∷ 0x00 ∷ 0x00 ∷ 0x02 ∷ 0x00 ∷ 0x41 ∷ 0x57 ∷ 8 ∷ 9 ∷ [])
tidies = unfold tidying in (refl, refl, refl)

-- the file that it wrote is accepted
pub tidied-accepted : file_row (0x03 ∷ 0x00 ∷ 0x01 ∷ 0x01 ∷ 0x02 ∷ 0x01 ∷ 0x00 ∷ 0x00 ∷ 0x02 ∷ 0x00 ∷ 0x41 ∷ 0x57 ∷ []) ≡ 0
tidied-accepted = unfold tidying in refl

-- eleven bytes are too few, and stay as they were
pub short-16 : (tidied_of (loose 0) 11 ≡ Err Slice) × (slice_tidied (loose 0) (7 ∷ 7 ∷ 7 ∷ 7 ∷ 7 ∷ 7 ∷ 7 ∷ 7 ∷ 7 ∷ 7 ∷ 8 ∷ []) ≡ 7 ∷ 7 ∷ 7 ∷ 7 ∷ 7 ∷ 7 ∷ 7 ∷ 7 ∷ 7 ∷ 7 ∷ 8 ∷ [])
short-16 = unfold tidying in (refl, refl)

-- with state 0 accepting, the clause 01 makes a mixed component: 11, though the tidied rule has none, and before 16
pub stands-11 : (tidied_of (loose 1) 14 ≡ Err Mixed) × (tidy_row (loose 1) 0 ≡ 11)
stands-11 = unfold tidying in (refl, refl)

-- the rule of `loose 0` after one byte and the name of its letter, which begins with x
abbrev pub lettered : ℕ → List ℕ
lettered x = 0xff ∷ x ∷ 0x4f ∷ 0x20 ∷ 0x20 ∷ 0x20 ∷ 0x20 ∷ 0x20 ∷ 0x20 ∷ 0x4e ∷ 0x4d ∷ 0x03 ∷ 0x01 ∷ 0x00 ∷ 0x01 ∷ 0x02 ∷ 0x02 ∷ 0x01 ∷ 0x00 ∷ 0x00 ∷ 0x03 ∷ 0x00 ∷ 0x41 ∷ 0x57 ∷ []

-- the name stays, the byte before it goes
pub tidies-named : (tidied_of (lettered 0x47) 23 ≡ Ok 22)
    × (slice_tidied (lettered 0x47) (7 ∷ 7 ∷ 7 ∷ 7 ∷ 7 ∷ 7 ∷ 7 ∷ 7 ∷ 7 ∷ 7 ∷ 7 ∷ 7 ∷ 7 ∷ 7 ∷ 7 ∷ 7 ∷ 7 ∷ 7 ∷ 7 ∷ 7 ∷ 7 ∷ 7 ∷ 8 ∷ [])
    ≡ 0x47 ∷ 0x4f ∷ 0x20 ∷ 0x20 ∷ 0x20 ∷ 0x20 ∷ 0x20 ∷ 0x20 ∷ 0x4e ∷ 0x4d ∷ 0x03 ∷ 0x00 ∷ 0x01 ∷ 0x01 ∷ 0x02 ∷ 0x01 ∷ 0x00 ∷ 0x00 ∷ 0x02 ∷ 0x00 ∷ 0x41 ∷ 0x57 ∷ 8 ∷ [])
tidies-named = unfold tidying in (refl, refl)

-- 1F in the name: 22, before 16; too few bytes before 4E 4D: 21
pub refuses-names : (tidy_row (lettered 0x1f) 0 ≡ 22)
    × (tidy_row (0x4e ∷ 0x4d ∷ 0x03 ∷ 0x01 ∷ 0x00 ∷ 0x01 ∷ 0x02 ∷ 0x02 ∷ 0x01 ∷ 0x00 ∷ 0x00 ∷ 0x03 ∷ 0x00 ∷ 0x41 ∷ 0x57 ∷ []) 0 ≡ 21)
refuses-names = unfold tidying in (refl, refl)
