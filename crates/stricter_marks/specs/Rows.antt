-- Rows of pairs that are filled one after the other: number i of A and number j of B, of nb numbers, stand at place i * nb + j.
use Rattle.std.specs.Prelude.{◌≡◌, true, ◌&&◌, cond, List, ℕ, ◌+◌, ◌*◌, ◌/◌, ◌%◌, ◌<◌, length, get_or}
use Rattle.sets.specs.Tests.{one}
use Rattle.stricter_spec.specs.Tags.{core_number_lem}
use Rattle.stricter_spec.specs.Steps.{stands_in, has_core}

-- 1 for a pair of numbers that both stand for their cores
unfoldable pub placed_at : List ℕ → List ℕ → ℕ → ℕ
placed_at acodes bcodes x = one (stands_in acodes (x / length bcodes) && stands_in bcodes (x % length bcodes))

-- the pair of the cores of a pair
unfoldable pub core_at_lem : List ℕ → List ℕ → ℕ → ℕ
core_at_lem acodes bcodes x = core_number_lem (get_or acodes (x / length bcodes) 0) * length bcodes + core_number_lem (get_or bcodes (x % length bcodes) 0)

-- the mark that a pair takes: that of the pair of its cores, where both numbers have one
unfoldable pub taken_at_lem : List ℕ → List ℕ → List ℕ → ℕ → ℕ
taken_at_lem acodes bcodes marks x = cond (has_core acodes (x / length bcodes) && has_core bcodes (x % length bcodes)) (get_or marks (core_at_lem acodes bcodes x) 0) 0

-- a number's core has a number that stands for it, if it has one
abbrev pub Standing : List ℕ → Type 0
Standing codes = (i : ℕ) → i < length codes → has_core codes i ≡ true → stands_in codes (core_number_lem (get_or codes i 0)) ≡ true
