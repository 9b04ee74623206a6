-- A list whose elements are replaced one by one.
use Rattle.std.specs.Prelude.{◌≡◌, List, ◌⊎◌, ℕ, ◌≤◌, ◌<◌, length, get_or}

-- the places from `from` up to `to` have what f gives, the others what they had
pub record Filled (f : ℕ → ℕ) (from to : ℕ) (old new : List ℕ) : Type 0 where
  pub long : length new ≡ length old
  pub inside : (x : ℕ) → from ≤ x → x < to → get_or new x 0 ≡ f x
  pub outside : (x : ℕ) → (x < from) ⊎ (to ≤ x) → get_or new x 0 ≡ get_or old x 0
