-- Places in a strictly ascending list ("writes reachable codes ascending into a lent slice of 64-bit numbers, numbered from 0").
use Rattle.std.specs.Prelude.{Bool, true, ◌&&◌, List, [], ◌∷◌, ◌++◌, ℕ, ◌+◌, ◌-◌, ltb, length, take, replicate}
use Rattle.sets.specs.Tests.{one}

-- how many members are below x: in an ascending list the place of x, and its number if it is there
unfoldable pub below : ℕ → List ℕ → ℕ
below x [] = 0
below x (y ∷ ys) = one (ltb y x) + below x ys

-- whether each member is above the one before it, the first above x
unfoldable pub ascends_from : ℕ → List ℕ → Bool
ascends_from x [] = true
ascends_from x (y ∷ ys) = ltb x y && ascends_from y ys

-- whether the list ascends strictly ("codes or transitions not strictly ascending" is refused by 15)
unfoldable pub ascends : List ℕ → Bool
unfolding ascends_from
ascends [] = true
ascends (x ∷ xs) = ascends_from x xs

-- the first n elements, and zeros in place of the others ("unused elements become 0")
abbrev pub zeroed_from : ℕ → List ℕ → List ℕ
zeroed_from n xs = take n xs ++ replicate (length xs - n) 0
