-- The vectors of cores, by their open states.
use Rattle.std.specs.Prelude.{◌≡◌, List, ℕ, ◌+◌, ◌^◌, ◌<◌, ltb}
use Rattle.sets.specs.Masks.{mask}
use Rattle.build_cores.specs.Vectors.{rank_at, Within}
use Rattle.build_cores.specs.Used.{caps_of}
use Rattle.build_spec.specs.Keys.{Cored}

-- the states with a rank
abbrev pub open_in : ℕ → ℕ
open_in v = mask 8 (λ q. ltb 0 (rank_at v q))

-- the vectors of the cores with the open states x are among base + d with d within caps, which are all within the largest ranks
pub record Spans (parts : List ℕ) (components x base caps : ℕ) : Type 0 where
  pub low : caps < 2 ^ 32
  pub inside : (d : ℕ) → Within 8 d caps → Within 8 (base + d) (caps_of parts components)
  pub covers : (v : ℕ) → Cored parts components v → open_in v ≡ x → (d : ℕ) × Within 8 d caps × (v ≡ base + d)
