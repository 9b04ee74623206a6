-- The clause test.
use Rattle.std.specs.Prelude.{cond, Option, None, Some, List, [], ◌∷◌, ℕ, ◌+◌}
use Rattle.sets.specs.Masks.{bit, inside}

-- the first of the clauses, numbered from j, all of whose states are in the set
unfoldable pub met_from : ℕ → List ℕ → ℕ → Option ℕ
unfolding inside bit
met_from set [] j = None
met_from set (c ∷ cs) j = cond (inside 8 (bit set) c) (Some j) (met_from set cs (j + 1))

-- 01: "A set satisfies an entry if it contains all states of some clause": the first such clause of the entry, numbered from 0
abbrev pub met_of : ℕ → List ℕ → Option ℕ
met_of set clauses = met_from set clauses 0
