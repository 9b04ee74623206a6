-- What is appended to a slice: it was xs with n elements in use, and is ys with m in use.
use Rattle.std.specs.Prelude.{◌≡◌, Bool, true, false, List, ℕ, ◌≤◌, ◌<◌, length, get_or}

-- no room: the slice is full, and a number of F is not there
pub record Lacking (There F : ℕ → Type 0) (ys : List ℕ) (m : ℕ) : Type 0 where
  pub one : ℕ
  pub from : F one
  pub lacks : There one → ⊥
  pub filled : m ≡ length ys

-- the n elements stay, all numbers of W are there, but for room, and what is new is of F. An element stands for a number by `read`, `There` tells
-- where numbers are looked for, and `Kept` what is kept about the elements in use.
pub record Appended (read : ℕ → ℕ) (There : ℕ → Type 0) (Kept : Type 0) (W F : ℕ → Type 0) (xs : List ℕ) (n : ℕ) (ys : List ℕ) (m : ℕ) (full : Bool) : Type 0 where
  pub long : length ys ≡ length xs
  pub more : n ≤ m
  pub same : (p : ℕ) → p < n → get_or ys p 0 ≡ get_or xs p 0
  pub kept : Kept
  pub whole : full ≡ false → (y : ℕ) → W y → There y
  pub only : (p : ℕ) → n ≤ p → p < m → F (read (get_or ys p 0))
  pub over : full ≡ true → Lacking There F ys m
