-- The refusals of a rule file, in order of checking, and of names that are given.
use Rattle.std.specs.Prelude.{ℕ, ◌+◌, ◌-◌, ◌*◌, List, [], ◌∷◌, ◌++◌, not, ◌&&◌, ◌||◌, length, ltb, eqb}
use Rattle.sets.specs.Lists.{any_of}
use Rattle.refusals.specs.Rows.{Check, first_row, check}
use Rattle.refusals.specs.declared.Refusal.TheVariants.{ShortFile, NoTag, Cut, Names, NameByte, EqualNames}
use Rattle.file_spec.specs.File.{trailer, tagged, head_of, clause_count, entry_count, clauses_of_lem, counts_of_lem, part_before_lem, rule_in}
use Rattle.file_spec.specs.Names.{has_names_lem, names_before, repeats_name_lem}
use Rattle.file_spec.specs.RuleRows.{outside, number_rows, list_rows, component_rows, formed_rows}

-- rows 1 to 7, of a file's trailer
unfoldable pub trailer_rows : List ℕ → List Check
trailer_rows f =
    -- "file under 8 bytes"
    check (ltb (length f) 8) ShortFile
    -- "last two bytes not the tag"
    ∷ check (not (tagged f)) NoTag
    ∷ (number_rows (head_of f)
    -- "fewer than c + n × s bytes before the trailer"
    ++ (check (ltb (length f - 8) (clause_count f + entry_count f)) Cut ∷ []))

-- rows 1 to 10, of a file's layout
unfoldable pub layout_rows : List ℕ → List Check
layout_rows f = trailer_rows f ++ list_rows (trailer f 0) (counts_of_lem f) (clauses_of_lem f)

-- rows 1 to 11 and 20: what a file is refused for whatever its preface is
unfoldable pub body_rows : List ℕ → List Check
body_rows f = layout_rows f ++ formed_rows (rule_in f)

-- rows 22 and 23, of the bytes of names
unfoldable pub name_rows : List ℕ → List Check
name_rows names =
    -- "a name byte outside 20 to 7E"
    check (any_of names (outside 0x20 0x7E)) NameByte
    -- "two equal names"
    ∷ check (repeats_name_lem names) EqualNames
    ∷ []

-- rows 21 to 23, of a preface before a rule of s letters. 02: "all three after 11"
unfoldable pub preface_rows : ℕ → List ℕ → List Check
preface_rows s p =
    -- "names that do not fit in the preface"
    check (has_names_lem p && ltb (length p - 2) (8 * s)) Names
    ∷ name_rows (names_before s p)

-- rows 21 to 23, of name bytes that are given to the writer for s letters
unfoldable pub given_rows : ℕ → List ℕ → List Check
given_rows s names =
    -- "name bytes given to it that are neither none nor 8 × s are 21"
    check (not (eqb (length names) 0 || eqb (length names) (8 * s))) Names
    -- "and it tries 22 and 23 too"
    ∷ name_rows names

-- the rule's group
unfoldable pub file_rows_lem : List ℕ → List Check
file_rows_lem f = body_rows f ++ preface_rows (trailer f 1) (part_before_lem f)

-- the first of rows 1 to 11 and 20 that refuses the file, or 0
unfoldable pub body_row : List ℕ → ℕ
body_row f = first_row (body_rows f)

-- the first of rows 21 to 23 that refuses the part before the first clause, or 0
unfoldable pub preface_row_lem : List ℕ → ℕ
preface_row_lem f = first_row (preface_rows (trailer f 1) (part_before_lem f))

-- the number of the first row that refuses the file, or 0
unfoldable pub file_row : List ℕ → ℕ
file_row f = first_row (file_rows_lem f)

-- ---- the reader of 01, in controllers in the field: rows 1 to 11, the preface skipped

unfoldable pub old_rows : List ℕ → List Check
old_rows f = layout_rows f ++ component_rows (rule_in f)

unfoldable pub old_row : List ℕ → ℕ
old_row f = first_row (old_rows f)
