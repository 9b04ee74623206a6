-- The bytes of state.
use Rattle.std.specs.Prelude.{Bool, List, [], ◌∷◌, ◌++◌, ℕ, suc, ◌+◌, ◌*◌, ◌-◌, ◌/◌, ◌%◌, min, ltb, length, get_or, take, drop, replicate}
use Rattle.sets.specs.Lists.{tabulate, flat}
use Rattle.sets.specs.Tests.{one}
use Rattle.live_spec.specs.Afresh.{afresh}
use Rattle.live_spec.specs.History.{is_set, letters_at, Log, log_of, History}

-- ---- where its parts stand, and its length

-- the number of letters held, in two bytes, at 0; then whether each mark is set, a byte each, at 2 + mark

-- how many letters each mark has, two bytes each
abbrev pub mark_number_at : ℕ → ℕ
mark_number_at m = 18 + 2 * m

-- the letters held, 512 bytes
abbrev pub letters_at_byte : ℕ
letters_at_byte = 50

-- the letters of each mark, 512 bytes each
abbrev pub mark_letters_at : ℕ → ℕ
mark_letters_at m = 562 + 512 * m

-- the set, a byte for each number of a macrostate
abbrev pub set_at : ℕ
set_at = 8754

-- MULGREDDI_LIVE_STATE
abbrev pub state_length_lem : ℕ
state_length_lem = 74290

-- ---- what a history leaves in it

-- a number below 65,536, low byte first
unfoldable pub two_bytes : ℕ → List ℕ
two_bytes n = n % 256 ∷ (n / 256 ∷ [])

-- a list, and zeros in place of the other elements
unfoldable pub padded : ℕ → List ℕ → List ℕ
padded long l = l ++ replicate (long - length l) 0

-- for each mark
unfoldable pub for_marks : (ℕ → List ℕ) → List ℕ
for_marks f = flat (tabulate 16 (λ m. m) 0) f

-- the bytes of a log, before those of the set
unfoldable pub log_bytes : Log → List ℕ
log_bytes g =
    two_bytes (length g.letters)
    ++ (for_marks (λ m. one (is_set (g.marks m)) ∷ [])
    ++ (for_marks (λ m. two_bytes (length (letters_at (g.marks m))))
    ++ (padded 512 g.letters
    ++ for_marks (λ m. padded 512 (letters_at (g.marks m))))))

-- what state holds is this function of the history, for the initial state q of the rule and a table
unfoldable pub state_of : ℕ → List ℕ → List ℕ → History → List ℕ
state_of q codes transitions h = log_bytes (log_of h) ++ padded 65536 (afresh q codes transitions (log_of h).letters)

-- ---- what is read in any bytes: one that is not there is read as 0, a number of letters above 512 as 512

unfoldable pub number_at_lem : List ℕ → ℕ → ℕ
number_at_lem state at = min 512 (get_or state at 0 + 256 * get_or state (suc at) 0)

-- how many letters are held
abbrev pub number_in : List ℕ → ℕ
number_in state = number_at_lem state 0

-- the letters held
unfoldable pub letters_in : List ℕ → List ℕ
letters_in state = take (number_in state) (drop letters_at_byte state)

-- whether a mark is set: a byte that is not 0
unfoldable pub is_marked_lem : List ℕ → ℕ → Bool
is_marked_lem state m = ltb 0 (get_or state (2 + m) 0)

-- the bytes of the set
abbrev pub set_bytes : List ℕ → List ℕ
set_bytes state = drop set_at state
