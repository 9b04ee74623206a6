-- What a slice holds of the numbers that are reached.
use Rattle.std.specs.Prelude.{◌≡◌, Bool, true, false, ℕ, ◌%◌, ◌^◌, ◌≤◌, ◌<◌, length, take}
use mathlib.Core.List.{List, Memᴰ, map}
use Rattle.slice_sort.specs.Order.{Distinct}

-- the keys of the first m elements, links off
abbrev pub keys_of : ℕ → List ℕ → List ℕ
keys_of m ys = map (λ (e : ℕ). e % 2 ^ 48) (take m ys)

-- the keys of the first m elements of ys are the numbers of R, each once; or R has more numbers than the slice xs has places
pub record Gathered (R : ℕ → Type 0) (xs ys : List ℕ) (m : ℕ) (full : Bool) : Type 0 where
  pub long : length ys ≡ length xs
  pub fits : m ≤ length ys
  pub once : full ≡ false → Distinct (keys_of m ys)
  pub sound : full ≡ false → (y : ℕ) → Memᴰ y (keys_of m ys) → R y
  pub whole : full ≡ false → (y : ℕ) → R y → Memᴰ y (keys_of m ys)
  pub crowded : full ≡ true → (l : List ℕ) → ((y : ℕ) → R y → Memᴰ y l) → length xs < length l

-- the first m elements of ys are the list l; or l is longer than the slice xs (01, row 17: "more reachable macrostates than room")
pub record Listed (l xs ys : List ℕ) (m : ℕ) (full : Bool) : Type 0 where
  pub long : length ys ≡ length xs
  pub fits : m ≤ length ys
  pub listed : full ≡ false → take m ys ≡ l
  pub crowded : full ≡ true → length xs < length l
