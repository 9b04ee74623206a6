-- The set worked out afresh, a byte 0 or 1 for each macrostate: what it holds is `ReachedOver` (live_laws/proofs/Reached: reached-iff).
use Rattle.std.specs.Prelude.{Bool, ◌&&◌, List, [], ◌∷◌, map, ℕ, eqb, ltb, length, get_or}
use Rattle.sets.specs.Lists.{any_of, tabulate}
use Rattle.sets.specs.Masks.{bit}
use Rattle.sets.specs.Tests.{one, count}
use Rattle.theory.specs.Macrostate.{begun}
use Rattle.theory.specs.Run.{source_of, letter_of_lem, target_of}

-- a byte that is not 0 puts its macrostate into the set
abbrev pub is_in : List ℕ → ℕ → Bool
is_in set x = ltb 0 (get_or set x 0)

-- t leads over the letter a from a macrostate in the set to y
unfoldable pub enters : List ℕ → ℕ → ℕ → ℕ → Bool
enters set a y t = eqb (letter_of_lem t) a && (is_in set (source_of t) && eqb (target_of t) y)

-- the set of n macrostates after one more letter
unfoldable pub stepped : ℕ → List ℕ → ℕ → List ℕ → List ℕ
stepped n transitions a set = tabulate n (λ y. one (any_of transitions (enters set a y))) 0

-- after some letters, from a set
unfoldable pub stepped_over : ℕ → List ℕ → List ℕ → List ℕ → List ℕ
stepped_over n transitions [] set = set
stepped_over n transitions (a ∷ l) set = stepped_over n transitions l (stepped n transitions a set)

-- the initial macrostates, for a rule with the initial state q
unfoldable pub initial_set : ℕ → List ℕ → List ℕ
initial_set q codes = map (λ c. one (begun (λ d. bit d q) c)) codes

-- 02: "the set worked out afresh"
unfoldable pub afresh : ℕ → List ℕ → List ℕ → List ℕ → List ℕ
afresh q codes transitions letters = stepped_over (length codes) transitions letters (initial_set q codes)

-- how many of n macrostates are in the set
unfoldable pub members_of : ℕ → List ℕ → ℕ
members_of n set = count n (is_in set)
