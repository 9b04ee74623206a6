-- The rows of the comparison of two rules, and what the lent slices hold afterwards by the first that refuses.
use Rattle.std.specs.Prelude.{Bool, ◌||◌, not, List, [], ◌∷◌, ◌++◌, ℕ, zero, suc, ◌*◌, ltb, eqb, length, replicate}
use Rattle.refusals.specs.Rows.{Check, first_row, check}
use Rattle.refusals.specs.declared.Refusal.TheVariants.{OtherLetters, PairRoom}
use Rattle.theory.specs.Rule.{Rule}
use Rattle.theory.specs.TableComputed.{macrostates, transitions}
use Rattle.file_spec.specs.File.{rule_in}
use Rattle.file_spec.specs.Rows.{file_rows_lem}
use Rattle.rejecting_spec.specs.RejectingComputed.{rejecting_macrostates, rejecting_transitions}
use Rattle.build.specs.Built.{room_rows, refuses_room}

-- the six lent slices. 02: "Rooms are lent as for building A's table and the table of B begun, with K and k 0, from all cores whose set lacks
-- B's initial state."
pub record Slices : Type 0 where
  pub codes_a : List ℕ
  pub transitions_a : List ℕ
  pub codes_b : List ℕ
  pub transitions_b : List ℕ
  pub word : List ℕ
  pub scratch : List ℕ

-- A's two rooms, those of the words that B rejects, the word slice and the scratch, by what each holds
abbrev pub slices_of : List ℕ → List ℕ → List ℕ → List ℕ → List ℕ → List ℕ → Slices
slices_of acodes atransitions bcodes btransitions word scratch = record {
  codes_a = acodes;
  transitions_a = atransitions;
  codes_b = bcodes;
  transitions_b = btransitions;
  word = word;
  scratch = scratch;
}

-- the two tables: A's, and that of the words that B rejects
pub record Tables : Type 0 where
  pub codes_a : List ℕ
  pub transitions_a : List ℕ
  pub codes_b : List ℕ
  pub transitions_b : List ℕ

-- 02: "P the macrostates of A × those of B"
unfoldable pub pairs : Tables → ℕ
pairs tables = length tables.codes_a * length tables.codes_b

-- 02: "28, different s"
unfoldable pub alphabet_rows : Rule → Rule → List Check
alphabet_rows a b = check (not (eqb a.s b.s)) OtherLetters ∷ []

-- 02: "17 and 18 go by A's reachable table, then B's"
unfoldable pub both_room_rows : Tables → Slices → List Check
both_room_rows tables lent =
    room_rows tables.codes_a tables.transitions_a (length lent.codes_a) (length lent.transitions_a)
    ++ room_rows tables.codes_b tables.transitions_b (length lent.codes_b) (length lent.transitions_b)

-- 02: "29, with P .., the word slice under 3 × P letters or the scratch under P bytes"
unfoldable pub pair_rows : Tables → Slices → List Check
pair_rows tables lent = check (ltb (length lent.word) (3 * pairs tables) || ltb (length lent.scratch) (pairs tables)) PairRoom ∷ []

-- of two rules: 28 "after both rules", 29 "checked after both builds"
unfoldable pub rules_rows : Rule → Rule → Tables → Slices → List Check
rules_rows a b tables lent = alphabet_rows a b ++ (both_room_rows tables lent ++ pair_rows tables lent)

-- the tables as they are computed
abbrev pub tables_of : Rule → Rule → Tables
tables_of a b = record { codes_a = macrostates a; transitions_a = transitions a; codes_b = rejecting_macrostates b; transitions_b = rejecting_transitions b }

-- of two files
abbrev pub stricter_rows : List ℕ → List ℕ → Slices → List Check
stricter_rows a b lent = file_rows_lem a ++ (file_rows_lem b ++ rules_rows (rule_in a) (rule_in b) (tables_of (rule_in a) (rule_in b)) lent)

-- the first row that refuses, or 0
unfoldable pub stricter_row : List ℕ → List ℕ → Slices → ℕ
stricter_row a b lent = first_row (stricter_rows a b lent)

-- ---- what the slices hold afterwards

-- 02: 17 and 18 "zero all four rooms"; 29, "with the rooms zeroed as for 17". "A served call leaves both tables in the rooms, unused elements 0":
-- a room holds `room_after zeroes_rooms` of the row and the list that is to be written there
abbrev pub zeroes_rooms : ℕ → Bool
zeroes_rooms k = refuses_room k || eqb k 29

-- 02: a served call leaves "the scratch all zero"; "a refused one leaves word slice and scratch as lent"
unfoldable pub scratch_left : ℕ → List ℕ → List ℕ
scratch_left zero lent = replicate (length lent) 0
scratch_left (suc k) lent = lent
