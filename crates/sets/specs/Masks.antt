-- Sets of numbers as masks: number q has weight 2 to the power q.
use Rattle.std.specs.Prelude.{Bool, not, ◌||◌, cond, List, [], ◌∷◌, ℕ, zero, suc, ◌+◌, ◌*◌, ◌/◌, ◌%◌, ◌^◌, eqb}
use Rattle.sets.specs.Tests.{Set, one, every}

-- q is in the mask m
unfoldable pub bit : ℕ → Set
bit m q = eqb (m / 2 ^ q % 2) 1

-- the mask of the numbers below n that pass the test
unfoldable pub mask : ℕ → Set → ℕ
mask zero f = 0
mask (suc n) f = one (f n) * 2 ^ n + mask n f

-- all members of the mask m among the numbers below n are in X
unfoldable pub inside : ℕ → Set → ℕ → Bool
inside n X m = every n (λ q. not (bit m q) || X q)

-- i before r where the digit d is set
abbrev pub prepend : ℕ → ℕ → List ℕ → List ℕ
prepend zero i r = r
prepend (suc d) i r = i ∷ r

-- the members of m among n numbers, numbered from i, ascending
unfoldable pub members_from : ℕ → ℕ → ℕ → List ℕ
members_from zero i m = []
members_from (suc n) i m = prepend (m % 2) i (members_from n (i + 1) (m / 2))

-- the members of a mask of eight bits, ascending
abbrev pub members : ℕ → List ℕ
members m = members_from 8 0 m

-- exactly one of the two
abbrev pub exclusive : Bool → Bool → Bool
exclusive a b = cond a (not b) b
