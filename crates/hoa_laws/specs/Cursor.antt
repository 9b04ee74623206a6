-- Where the transitions of a number stand in a table's list.
use Rattle.std.specs.Prelude.{◌≡◌, List, ℕ, ◌<◌, ◌≤◌, length, get_or}
use Rattle.theory.specs.Run.{source_of}

-- the first j transitions come from numbers below i, and no other does
pub record Cursor (transitions : List ℕ) (i j : ℕ) : Type 0 where
  pub within : j ≤ length transitions
  pub before : (p : ℕ) → p < j → source_of (get_or transitions p 0) < i
  pub after : (p : ℕ) → j ≤ p → p < length transitions → i ≤ source_of (get_or transitions p 0)

-- from place j on, the transitions up to place k come from i, and the one at k, if there is one, does not
pub record Stretch (transitions : List ℕ) (i j k : ℕ) : Type 0 where
  pub from : j ≤ k
  pub within : k ≤ length transitions
  pub all : (p : ℕ) → j ≤ p → p < k → source_of (get_or transitions p 0) ≡ i
  pub last : k < length transitions → source_of (get_or transitions k 0) ≡ i → ⊥
