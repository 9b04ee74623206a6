-- Numbers by their low bits.
use Rattle.std.specs.Prelude.{◌≡◌, List, [], ◌∷◌, ℕ, ◌+◌, ◌%◌, ◌^◌}

-- numbers without what stands above m
unfoldable pub low_parts : ℕ → List ℕ → List ℕ
low_parts m [] = []
low_parts m (x ∷ xs) = x % m ∷ low_parts m xs

-- a mask of the lowest bits
abbrev pub LowBits : ℕ → Type 0
LowBits mask = (k : ℕ) × (mask + 1 ≡ 2 ^ k)
