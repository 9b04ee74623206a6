-- Start pairs among those that are in.
use Rattle.std.specs.Prelude.{◌≡◌, true, List, ℕ, ◌≤◌, ◌<◌, length, get_or}
use Rattle.sets.specs.Tests.{Set}

-- r is the first node from `from` on, below `to`, that is in and passes the test, or `to`
pub record RowStart (starts : Set) (marks : List ℕ) (from to r : ℕ) : Type 0 where
  pub within : r ≤ to
  pub inside : r < to → 0 < get_or marks r 0
  pub begins : r < to → starts r ≡ true
  pub none : to ≤ r → (x : ℕ) → from ≤ x → x < to → 0 < get_or marks x 0 → starts x ≡ true → ⊥

-- the first such number, or that of all
pub record FirstStart (starts : Set) (marks : List ℕ) (r : ℕ) : Type 0 where
  pub within : r ≤ length marks
  pub inside : r < length marks → 0 < get_or marks r 0
  pub begins : r < length marks → starts r ≡ true
  pub none : length marks ≤ r → (x : ℕ) → 0 < get_or marks x 0 → starts x ≡ true → ⊥
