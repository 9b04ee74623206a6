-- What each of the five calls refuses, in order: the rule's rows, 14, 15, 30 to 33, 16. State is given by its bytes, set by its length.
use Rattle.std.specs.Prelude.{not, ◌||◌, List, [], ◌∷◌, ◌++◌, ℕ, eqb, leb, ltb, length}
use Rattle.refusals.specs.Rows.{Check, check, first_row}
use Rattle.refusals.specs.declared.Refusal.TheVariants.{Letter, Slice, LogFull, LogEmpty, Mark as MarkNumber, MarkNotSet}
use Rattle.file_spec.specs.File.{rule_in}
use Rattle.file_spec.specs.Rows.{file_rows_lem}
use Rattle.table_lent.specs.Lent.{Lent, table_rows_lem}
use Rattle.live_spec.specs.History.{is_set, Log}
use Rattle.live_spec.specs.State.{state_length_lem, number_in, is_marked_lem}
use Rattle.live_spec.specs.declared.LiveCall.{LiveCall}
use Rattle.live_spec.specs.declared.LiveCall.TheVariants.{Start, Arrive, Withdraw, Mark, Return}

-- 16: state, or the slice of the set, too short for n macrostates
unfoldable pub slice_rows : ℕ → List ℕ → ℕ → List Check
slice_rows n state setLen = check (ltb (length state) state_length_lem || ltb setLen n) Slice ∷ []

-- 14, for s letters: "14 is checked before 30"
unfoldable pub arrival_rows : ℕ → LiveCall → List Check
arrival_rows s Start = []
arrival_rows s (Arrive a) = check (leb s a) Letter ∷ []
arrival_rows s Withdraw = []
arrival_rows s (Mark m) = []
arrival_rows s (Return m) = []

-- 30 to 33, "right after 15"
unfoldable pub log_rows : LiveCall → List ℕ → List Check
log_rows Start state = []
-- "30, arrival at 512 letters"
log_rows (Arrive a) state = check (leb 512 (number_in state)) LogFull ∷ []
-- "31, withdrawal from none"
log_rows Withdraw state = check (eqb (number_in state) 0) LogEmpty ∷ []
-- "32, mark number above 15"
log_rows (Mark m) state = check (ltb 15 m) MarkNumber ∷ []
-- "33, return to a mark not set since the start; .. 32 before 33"
log_rows (Return m) state = check (ltb 15 m) MarkNumber ∷ (check (not (is_marked_lem state m)) MarkNotSet ∷ [])

-- 30 to 33 by the letters held and the marks: `log_rows` is this of what a history left (live_laws/proofs/Refused: refused-by-log)
unfoldable pub held_rows : LiveCall → Log → List Check
held_rows Start g = []
held_rows (Arrive a) g = check (leb 512 (length g.letters)) LogFull ∷ []
held_rows Withdraw g = check (eqb (length g.letters) 0) LogEmpty ∷ []
held_rows (Mark m) g = check (ltb 15 m) MarkNumber ∷ []
held_rows (Return m) g = check (ltb 15 m) MarkNumber ∷ (check (not (is_set (g.marks m))) MarkNotSet ∷ [])

-- behind the rule's rows, for a rule of s letters
unfoldable pub live_call_rows : LiveCall → ℕ → Lent → Lent → List ℕ → ℕ → List Check
live_call_rows c s codes transitions state setLen =
    arrival_rows s c ++ (table_rows_lem s codes transitions ++ (log_rows c state ++ slice_rows (length codes.numbers) state setLen))

-- the first of these that refuses, or 0
unfoldable pub live_call_row : LiveCall → ℕ → Lent → Lent → List ℕ → ℕ → ℕ
live_call_row c s codes transitions state setLen = first_row (live_call_rows c s codes transitions state setLen)

-- all rows of the call
abbrev pub live_rows : LiveCall → List ℕ → Lent → Lent → List ℕ → ℕ → List Check
live_rows c f codes transitions state setLen = file_rows_lem f ++ live_call_rows c (rule_in f).s codes transitions state setLen

-- the first row that refuses the call, or 0
unfoldable pub live_row : LiveCall → List ℕ → Lent → Lent → List ℕ → ℕ → ℕ
live_row c f codes transitions state setLen = first_row (live_rows c f codes transitions state setLen)
