-- Tagged codes of which some lose their core.
use Rattle.std.specs.Prelude.{◌≡◌, ◌||◌, cond, List, ℕ, ◌+◌, ◌*◌, ◌%◌, ◌^◌, ◌<◌, leb, ltb, length, get_or}

-- numbers whose byte is 0 have the length of the list for a core's number, unless it has 65,536
pub record Buried (old live new : List ℕ) : Type 0 where
  pub long : length new ≡ length old
  pub each : (i : ℕ) → i < length old
      → get_or new i 0 ≡ cond (ltb 0 (get_or live i 0) || leb 65536 (length old)) (get_or old i 0) (get_or old i 0 % 2 ^ 48 + 2 ^ 48 * length old)
