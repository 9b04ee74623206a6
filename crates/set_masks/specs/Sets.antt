-- Sets of eight states as masks, each given by the test for its members.
use Rattle.std.specs.Prelude.{◌&&◌, not, List, [], ◌∷◌, ℕ, ltb, get_or}
use Rattle.std.specs.Int.Bits.{bit_or}
use Rattle.sets.specs.Masks.{bit, mask}

-- the states in a and not in b
abbrev pub difference_of : ℕ → ℕ → ℕ
difference_of a b = mask 8 (λ q. bit a q && not (bit b q))

-- the states below n
abbrev pub full_of : ℕ → ℕ
full_of n = mask 8 (λ q. ltb q n)

-- the union of the masks that es has at the listed states
unfoldable pub union_over_lem : List ℕ → List ℕ → ℕ
union_over_lem es [] = 0
union_over_lem es (q ∷ qs) = bit_or (get_or es q 0) (union_over_lem es qs)
