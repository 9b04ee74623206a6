-- Stretches of zeros.
use Rattle.std.specs.Prelude.{◌≡◌, List, ℕ, ◌≤◌, ◌<◌, get_or}

-- the elements from place `from` up to `to` are 0
pub record Zeros (xs : List ℕ) (from to : ℕ) : Type 0 where
  pub ordered : from ≤ to
  pub zeros : (x : ℕ) → from ≤ x → x < to → get_or xs x 0 ≡ 0

-- r is the first place from `from` on, below `to`, whose element is not 0, or `to`
pub record NextSet (xs : List ℕ) (from to r : ℕ) : Type 0 where
  pub before : Zeros xs from r
  pub within : r ≤ to
  pub set : r < to → 0 < get_or xs r 0

-- r is the first place from `from` on, below `to`, whose element is `low` or more and below `high`, or `to`
pub record NextBetween (low high : ℕ) (xs : List ℕ) (from to r : ℕ) : Type 0 where
  pub ordered : from ≤ r
  pub within : r ≤ to
  pub none : (x : ℕ) → from ≤ x → x < r → low ≤ get_or xs x 0 → high ≤ get_or xs x 0
  pub found : r < to → (low ≤ get_or xs r 0) × (get_or xs r 0 < high)
