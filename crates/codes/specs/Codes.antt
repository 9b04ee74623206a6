-- Packed transitions.
use Rattle.std.specs.Prelude.{ℕ, ◌+◌, ◌*◌}

-- 01: "as source × 16777216 + letter × 65536 + target"
abbrev pub transition_of : ℕ → ℕ → ℕ → ℕ
transition_of source letter target = source * 16777216 + letter * 65536 + target
