-- What the reader answers for files with a preface, with names and with a mixed component, computed from the definitions.
use mathlib.Core.Path.{◌≡◌, refl}
use mathlib.Core.List.{List, [], ◌∷◌}
use Prim.Native.Nat.{ℕ}
use Rattle.std.specs.Prelude.{Ok, Err}
use Rattle.refusals.specs.Rows.{first_refusal}
use Rattle.refusals.specs.declared.Refusal.TheVariants.{Mixed}
use Rattle.file_spec.specs.Reading.{read_of, unrefused, preface_of}
use Rattle.file_spec.proofs.Examples.{rows_computed}

-- what an evaluation unfolds
unfoldable computed : ℕ
unfolding read_of first_refusal preface_of unrefused rows_computed
computed = 0

-- rule Z behind three bytes and the name of its letter
abbrev named-Z : List ℕ
named-Z = 0x01 ∷ 0x02 ∷ 0x03 ∷ 0x47 ∷ 0x4f ∷ 0x20 ∷ 0x20 ∷ 0x20 ∷ 0x20 ∷ 0x20 ∷ 0x20 ∷ 0x4e ∷ 0x4d ∷ 0x00 ∷ 0x01 ∷ 0x01 ∷ 0x00 ∷ 0x01 ∷ 0x00 ∷ 0x00 ∷ 0x41 ∷ 0x57 ∷ []

-- its names are eight bytes, and its clauses would begin behind their tag
named-read : read_of named-Z ≡ Ok (record { head = record { n = 1; s = 1; initial = 0; accepting = 1 }; at = 13; clauses = 0; names = 8 })
named-read = unfold computed in refl

-- the preface is all that stands before the first clause
named-preface : preface_of named-Z ≡ 0x01 ∷ 0x02 ∷ 0x03 ∷ 0x47 ∷ 0x4f ∷ 0x20 ∷ 0x20 ∷ 0x20 ∷ 0x20 ∷ 0x20 ∷ 0x20 ∷ 0x4e ∷ 0x4d ∷ []
named-preface = unfold computed in refl

-- 01's example of row 11 behind one byte: refused, and "From a refused file that part is empty."
abbrev mixed-behind : List ℕ
mixed-behind = 0x07 ∷ 0x02 ∷ 0x01 ∷ 0x01 ∷ 0x01 ∷ 0x02 ∷ 0x01 ∷ 0x00 ∷ 0x01 ∷ 0x02 ∷ 0x00 ∷ 0x41 ∷ 0x57 ∷ []

mixed-read : (read_of mixed-behind ≡ Err Mixed) × (preface_of mixed-behind ≡ [])
mixed-read = unfold computed in (refl, refl)
