-- What each served call leaves in state and set, of any bytes.
use Rattle.std.specs.Prelude.{List, [], ◌∷◌, ◌++◌, ℕ, ◌+◌, ◌-◌, length, take, drop, replicate}
use Rattle.sets.specs.Lists.{tabulate}
use Rattle.sets.specs.Tests.{one}
use Rattle.live_spec.specs.Afresh.{is_in, stepped, initial_set, afresh}
use Rattle.live_spec.specs.State.{mark_number_at, letters_at_byte, mark_letters_at, set_at, state_length_lem, two_bytes, number_at_lem, number_in, letters_in, set_bytes}

-- the bytes with a part written over those from at on
unfoldable pub put : ℕ → List ℕ → List ℕ → List ℕ
put at part bytes = take at bytes ++ (part ++ drop (at + length part) bytes)

-- with the number of letters held
unfoldable pub numbered : ℕ → List ℕ → List ℕ
numbered n state = put 0 (two_bytes n) state

-- with the set
unfoldable pub with_set : List ℕ → List ℕ → List ℕ
with_set set state = put set_at set state

-- for the initial state q of the rule and a table
module _ (q : ℕ) (codes transitions : List ℕ) where
  -- with the set worked out afresh over the letters that state holds
  unfoldable pub refreshed : List ℕ → List ℕ
  refreshed state = with_set (afresh q codes transitions (letters_in state)) state

  -- "From a start with none"
  unfoldable pub started : List ℕ → List ℕ
  started state = with_set (initial_set q codes) (put 0 (replicate state_length_lem 0) state)

  -- the letter comes behind those held, and the set goes one step
  unfoldable pub arrived : ℕ → List ℕ → List ℕ
  arrived a state =
      with_set (stepped (length codes) transitions a (set_bytes state))
      (put (letters_at_byte + number_in state) (a ∷ []) (numbered (number_in state + 1) state))

  -- the last letter held becomes 0
  unfoldable pub withdrawn : List ℕ → List ℕ
  withdrawn state = refreshed (put (letters_at_byte + (number_in state - 1)) (0 ∷ []) (numbered (number_in state - 1) state))

-- the mark gets the number of letters held and the 512 bytes for these; nothing else changes
unfoldable pub marked : ℕ → List ℕ → List ℕ
marked m state =
    put (mark_letters_at m) (take 512 (drop letters_at_byte state))
    (put (mark_number_at m) (two_bytes (number_in state))
    (put (2 + m) (1 ∷ []) state))

-- the number and the 512 bytes of the mark come back, the set is worked out afresh, and no mark changes
unfoldable pub returned : ℕ → List ℕ → List ℕ → ℕ → List ℕ → List ℕ
returned q codes transitions m state =
    refreshed q codes transitions
    (put letters_at_byte (take 512 (drop (mark_letters_at m) state))
    (numbered (number_at_lem state (mark_number_at m)) state))

-- the set that state holds, of n macrostates: "in a lent slice with a byte 0 or 1 for each"
unfoldable pub shown : ℕ → List ℕ → List ℕ
shown n state = tabulate n (λ y. one (is_in (set_bytes state) y)) 0
