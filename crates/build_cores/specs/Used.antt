-- The ranks in use in a component, given by its mask.
use Rattle.std.specs.Prelude.{Bool, ◌&&◌, ◌||◌, not, List, ℕ, zero, suc, ◌+◌, ◌*◌, eqb, get_or}
use Rattle.sets.specs.Tests.{Set, one, every, some_below, count}
use Rattle.sets.specs.Masks.{bit}
use Rattle.sets.specs.Digits.{num}
use Rattle.build_cores.specs.Vectors.{rank_at}

-- f 0 + f 1 + .., n of them
unfoldable pub sum_of : ℕ → (ℕ → ℕ) → ℕ
sum_of zero f = 0
sum_of (suc n) f = sum_of n f + f n

module _ (ranks part : ℕ) where
  -- some state of the component has rank j
  unfoldable pub taken : Set
  taken j = some_below 8 (λ q. bit part q && eqb (rank_at ranks q) j)

  -- j is 0, or some state of the component has rank j
  unfoldable pub used : Set
  used j = eqb j 0 || taken j

  -- the number of classes: of ranks in use from 1 on
  unfoldable pub class_count_lem : ℕ
  class_count_lem = count 15 (λ j. taken (suc j))

  -- 01: "Open states have ranks 1 to m with no gap"
  unfoldable pub gapless : Bool
  gapless = every 15 (λ j. not (used (suc j)) || used j)

-- the size of a component, at the place of each of its states
unfoldable pub sizes_of : ℕ → ℕ
sizes_of part = num 16 8 (λ q. one (bit part q)) * count 8 (bit part)

-- the sizes of all components
unfoldable pub caps_of : List ℕ → ℕ → ℕ
caps_of parts components = sum_of components (λ c. sizes_of (get_or parts c 0))
