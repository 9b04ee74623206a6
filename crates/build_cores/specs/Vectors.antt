-- Vectors of ranks as hexadecimal digits.
use Rattle.std.specs.Prelude.{◌≡◌, cond, ℕ, zero, suc, ◌+◌, ◌*◌, ◌/◌, ◌%◌, ◌^◌, ◌≤◌, eqb}

-- the rank of state q: four bits from 4 × q
unfoldable pub rank_at : ℕ → ℕ → ℕ
rank_at ranks q = ranks / 2 ^ (4 * q) % 16

-- m digits, each at most that of c
unfoldable pub Within : ℕ → ℕ → ℕ → Type 0
Within zero w c = (w ≡ 0) × (c ≡ 0)
Within (suc m) w c = (w % 16 ≤ c % 16) × Within m (w / 16) (c / 16)

-- the least of them above w
unfoldable pub next_of : ℕ → ℕ → ℕ → ℕ
next_of zero w c = 0
next_of (suc m) w c = cond (eqb (w % 16) (c % 16)) (next_of m (w / 16) (c / 16) * 16) (w + 1)

-- the vector after i steps from the first, which is 0
unfoldable pub visited : ℕ → ℕ → ℕ
visited caps zero = 0
visited caps (suc i) = next_of 8 (visited caps i) caps
