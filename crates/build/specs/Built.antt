-- What the build answers, and what it leaves in the two lent slices.
use Rattle.std.specs.Prelude.{Bool, ◌||◌, cond, List, [], ◌∷◌, ◌++◌, ℕ, zero, suc, ◌-◌, ltb, eqb, length, replicate}
use Rattle.std.specs.Prelude.{Result, Ok, Err}
use Rattle.refusals.specs.declared.Refusal.{Refusal}
use Rattle.build.specs.declared.Counts.{Counts}
use Rattle.refusals.specs.Rows.{Check, refusal_at, first_row, check}
use Rattle.refusals.specs.declared.Refusal.TheVariants.{MacrostateRoom, TransitionRoom}
use Rattle.sets.specs.Tests.{Set}
use Rattle.theory.specs.Macrostate.{holds_initial}
use Rattle.theory.specs.Rule.{Rule}
use Rattle.theory.specs.TableComputed.{macrostates_from, transitions_from}
use Rattle.file_spec.specs.File.{rule_in}
use Rattle.file_spec.specs.Rows.{file_rows_lem}
use Rattle.build_lists.specs.Room.{codes_room, transitions_room}

-- rows 17 and 18, of the codes and transitions to be written and the lengths of the two slices
unfoldable pub room_rows : List ℕ → List ℕ → ℕ → ℕ → List Check
room_rows codes moves codesLen movesLen =
    -- "more reachable macrostates than room"
    check (ltb (codes_room codesLen) (length codes)) MacrostateRoom
    -- "more transitions than room"
    ∷ check (ltb (transitions_room movesLen) (length moves)) TransitionRoom
    ∷ []

-- the first of them that refuses, or 0
unfoldable pub room_row : List ℕ → List ℕ → ℕ → ℕ → ℕ
room_row codes moves codesLen movesLen = first_row (room_rows codes moves codesLen movesLen)

-- by the first row that refuses: "It answers both counts" where none does, else "The answer is the number alone"
unfoldable pub built_by : ℕ → List ℕ → List ℕ → Result Counts Refusal
built_by zero codes moves = Ok (record { macrostates = length codes; transitions = length moves })
built_by (suc k) codes moves = Err (refusal_at k)

-- 01: "a build is refused for room by 17 or 18"
abbrev pub refuses_room : ℕ → Bool
refuses_room k = eqb k 17 || eqb k 18

-- by the first row that refuses, where some rows zero a lent slice: what it holds afterwards, the list being what is to be written there.
-- None: the list at its start, "unused elements become 0"
unfoldable pub room_after : (ℕ → Bool) → ℕ → List ℕ → List ℕ → List ℕ
room_after zeroes zero list lent = list ++ replicate (length lent - length list) 0
room_after zeroes (suc k) list lent = cond (zeroes (suc k)) (replicate (length lent) 0) lent

-- of the build: "1 to 16 change no lent slice, 17 and 18 set both room slices to zero throughout."; 02: "refusals from 19 on change no lent slice"
abbrev pub slice_after : ℕ → List ℕ → List ℕ → List ℕ
slice_after = room_after refuses_room

-- ---- of a file: the table of its rule, begun by a start condition

module _ (start : Rule → Set) (file : List ℕ) where
  abbrev pub file_codes : List ℕ
  file_codes = macrostates_from (rule_in file) (start (rule_in file))

  abbrev pub file_moves : List ℕ
  file_moves = transitions_from (rule_in file) (start (rule_in file))

  -- 01: "Rule .., word, table, slices, room.": the rows of the rule, then 17, then 18
  unfoldable pub row_from : ℕ → ℕ → ℕ
  row_from codesLen movesLen = first_row (file_rows_lem file ++ room_rows file_codes file_moves codesLen movesLen)

  -- the answer
  unfoldable pub built_from : ℕ → ℕ → Result Counts Refusal
  built_from codesLen movesLen = built_by (row_from codesLen movesLen) file_codes file_moves

  -- the slice of codes afterwards. 01: "The build writes reachable codes ascending into a lent slice of 64-bit numbers, numbered from 0"
  unfoldable pub codes_after_from : List ℕ → ℕ → List ℕ
  codes_after_from codes movesLen = slice_after (row_from (length codes) movesLen) file_codes codes

  -- the slice of transitions afterwards: "and transitions ascending into another"
  unfoldable pub transitions_after_from : ℕ → List ℕ → List ℕ
  transitions_after_from codesLen moves = slice_after (row_from codesLen (length moves)) file_moves moves

-- ---- 01's build: the start condition is that the set holds the initial state

abbrev pub build_row : List ℕ → ℕ → ℕ → ℕ
build_row = row_from holds_initial

abbrev pub built_of : List ℕ → ℕ → ℕ → Result Counts Refusal
built_of = built_from holds_initial

abbrev pub codes_after_lem : List ℕ → List ℕ → ℕ → List ℕ
codes_after_lem = codes_after_from holds_initial

abbrev pub transitions_after_lem : List ℕ → ℕ → List ℕ → List ℕ
transitions_after_lem = transitions_after_from holds_initial
