-- Numbers by their digits.
use Rattle.std.specs.Prelude.{ℕ, zero, suc, ◌+◌, ◌*◌, ◌^◌}

-- the number whose digits to the base b are f 0, f 1, .., m of them, lowest first
unfoldable pub num : ℕ → ℕ → (ℕ → ℕ) → ℕ
num b zero f = 0
num b (suc m) f = f m * b ^ m + num b m f
