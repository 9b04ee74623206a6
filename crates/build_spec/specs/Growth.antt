-- What is added to a list of keys.
use Rattle.std.specs.Prelude.{Bool, List, ℕ, ◌%◌, ◌^◌, ◌≤◌, ◌<◌}
use Rattle.build_spec.specs.Appended.{Appended}
use Rattle.build_spec.specs.Chains.{key_at, Lists, Chained}

-- the slice xs with n keys becomes ys with m: the n stay, all numbers of W are there, but for room, and what is new is of F
abbrev pub Grown : (ℕ → Type 0) → (ℕ → Type 0) → List ℕ → ℕ → List ℕ → List ℕ → List ℕ → ℕ → Bool → Type 0
Grown W F xs n ys heads last m full = Appended (λ x. x % 2 ^ 48) (Lists ys m) (Chained ys heads last m) W F xs n ys m full

-- a key from place `from` up to place n is related to y
abbrev pub After : ℕ → ℕ → List ℕ → (ℕ → ℕ → Type 0) → ℕ → Type 0
After from n xs R y = (p : ℕ) × (from ≤ p) × (p < n) × R (key_at xs p) y
