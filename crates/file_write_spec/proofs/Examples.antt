-- The writer on worked examples, computed from the definitions.
use Prim.Native.Nat.{ℕ}
use mathlib.Core.Path.{◌≡◌, refl}
use mathlib.Core.List.{List, [], ◌∷◌}
use lib.ListN.{length, replicate}
use Rattle.file_spec.specs.File.{trailer_of, body_of}
use Rattle.file_spec.specs.Names.{preface_from}
use Rattle.file_spec.specs.Rows.{given_rows}
use Rattle.file_spec.proofs.Examples.{rows_computed}
use Rattle.file_write_spec.specs.Written.{head_from, rule_rows, given_rule_rows, slice_rows, write_row, after, slice_after}

-- what the evaluation of a writing unfolds
unfoldable writing : ℕ
unfolding slice_after after write_row given_rule_rows rule_rows slice_rows given_rows preface_from body_of trailer_of rows_computed
writing = 0

-- Z into a slice of ten bytes: nine are written, the last is as it was
pub writes-Z : slice_after (head_from 1 1 0 1) (0x00 ∷ []) [] [] (7 ∷ 7 ∷ 7 ∷ 7 ∷ 7 ∷ 7 ∷ 7 ∷ 7 ∷ 7 ∷ 8 ∷ [])
    ≡ 0x00 ∷ 0x01 ∷ 0x01 ∷ 0x00 ∷ 0x01 ∷ 0x00 ∷ 0x00 ∷ 0x41 ∷ 0x57 ∷ 8 ∷ []
writes-Z = unfold writing in refl

-- eight bytes are too few for it, and stay as they were
pub short-Z : slice_after (head_from 1 1 0 1) (0x00 ∷ []) [] [] (7 ∷ 7 ∷ 7 ∷ 7 ∷ 7 ∷ 7 ∷ 7 ∷ 8 ∷ []) ≡ 7 ∷ 7 ∷ 7 ∷ 7 ∷ 7 ∷ 7 ∷ 7 ∷ 8 ∷ []
short-Z = unfold writing in refl

-- a mixed component and no room at all: 11
pub order-11-16 : write_row (head_from 2 1 0 1) (0x01 ∷ 0x01 ∷ []) (0x02 ∷ 0x01 ∷ []) [] 0 ≡ 11
order-11-16 = unfold writing in refl

-- a repeated clause, a mixed component and no room at all: 20
pub order-20-11-16 : write_row (head_from 2 1 0 1) (0x02 ∷ 0x01 ∷ []) (0x02 ∷ 0x02 ∷ 0x01 ∷ []) [] 0 ≡ 20
order-20-11-16 = unfold writing in refl

-- one count too many: 7, before its value is looked at
pub entries-7 : write_row (head_from 1 1 0 1) (0x00 ∷ 0x09 ∷ []) [] [] 9 ≡ 7
entries-7 = unfold writing in refl

-- 65,536 clauses, of which the counts know none: 9, and no room changes it
pub zeros-9 : write_row (head_from 1 1 0 1) (0x00 ∷ []) (replicate 65536 0) [] 0 ≡ 9
zeros-9 = unfold writing in refl

-- and whatever the clauses are
pub many-9 : (clauses : List ℕ) (room : ℕ) → length clauses ≡ 65536 → write_row (head_from 1 1 0 1) (0x00 ∷ []) clauses [] room ≡ 9
many-9 clauses room e = unfold writing in rw e

-- Z for two letters with their names into a slice of 29 bytes: letter 0 first, 4E 4D, the file; the last byte is as it was
pub writes-names : slice_after (head_from 1 2 0 1) (0x00 ∷ 0x00 ∷ []) [] (0x47 ∷ 0x4f ∷ 0x20 ∷ 0x20 ∷ 0x20 ∷ 0x20 ∷ 0x20 ∷ 0x20 ∷ 0x53 ∷ 0x54 ∷ 0x4f ∷ 0x50 ∷ 0x20 ∷ 0x20 ∷ 0x20 ∷ 0x20 ∷ [])
    (0x07 ∷ 0x07 ∷ 0x07 ∷ 0x07 ∷ 0x07 ∷ 0x07 ∷ 0x07 ∷ 0x07 ∷ 0x07 ∷ 0x07 ∷ 0x07 ∷ 0x07 ∷ 0x07 ∷ 0x07 ∷ 0x07 ∷ 0x07 ∷ 0x07 ∷ 0x07 ∷ 0x07 ∷ 0x07 ∷ 0x07 ∷ 0x07 ∷ 0x07 ∷ 0x07 ∷ 0x07 ∷ 0x07 ∷ 0x07 ∷ 0x07
    ∷ 0x07 ∷ [])
    ≡ 0x47 ∷ 0x4f ∷ 0x20 ∷ 0x20 ∷ 0x20 ∷ 0x20 ∷ 0x20 ∷ 0x20 ∷ 0x53 ∷ 0x54 ∷ 0x4f ∷ 0x50 ∷ 0x20 ∷ 0x20 ∷ 0x20 ∷ 0x20 ∷ 0x4e ∷ 0x4d ∷ 0x00 ∷ 0x00 ∷ 0x01 ∷ 0x02 ∷ 0x00 ∷ 0x01 ∷ 0x00 ∷ 0x00 ∷ 0x41 ∷ 0x57
    ∷ 0x07 ∷ []
writes-names = unfold writing in refl

-- one byte too few
pub short-names : write_row (head_from 1 2 0 1) (0x00 ∷ 0x00 ∷ []) [] (0x47 ∷ 0x4f ∷ 0x20 ∷ 0x20 ∷ 0x20 ∷ 0x20 ∷ 0x20 ∷ 0x20 ∷ 0x53 ∷ 0x54 ∷ 0x4f ∷ 0x50 ∷ 0x20 ∷ 0x20 ∷ 0x20 ∷ 0x20 ∷ []) 27 ≡ 16
short-names = unfold writing in refl

-- one name for two letters: 21, also where there is no room
pub names-21 : write_row (head_from 1 2 0 1) (0x00 ∷ 0x00 ∷ []) [] (0x47 ∷ 0x4f ∷ 0x20 ∷ 0x20 ∷ 0x20 ∷ 0x20 ∷ 0x20 ∷ 0x20 ∷ []) 0 ≡ 21
names-21 = unfold writing in refl

-- 7F in a name, and the names are equal: 22
pub names-22 : write_row (head_from 1 2 0 1) (0x00 ∷ 0x00 ∷ []) [] (0x7f ∷ 0x7f ∷ 0x7f ∷ 0x7f ∷ 0x7f ∷ 0x7f ∷ 0x7f ∷ 0x7f ∷ 0x7f ∷ 0x7f ∷ 0x7f ∷ 0x7f ∷ 0x7f ∷ 0x7f ∷ 0x7f ∷ 0x7f ∷ []) 40 ≡ 22
names-22 = unfold writing in refl

-- equal names: 23
pub names-23 : write_row (head_from 1 2 0 1) (0x00 ∷ 0x00 ∷ []) [] (0x47 ∷ 0x4f ∷ 0x20 ∷ 0x20 ∷ 0x20 ∷ 0x20 ∷ 0x20 ∷ 0x20 ∷ 0x47 ∷ 0x4f ∷ 0x20 ∷ 0x20 ∷ 0x20 ∷ 0x20 ∷ 0x20 ∷ 0x20 ∷ []) 40 ≡ 23
names-23 = unfold writing in refl
