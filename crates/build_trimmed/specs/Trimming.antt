-- What is left of a table that is trimmed in place.
use Rattle.std.specs.Prelude.{◌≡◌, List, ◌++◌, ℕ, ◌-◌, ◌^◌, ◌≤◌, ◌<◌, length, get_or, replicate}
use Rattle.build.specs.declared.Counts.{Counts}
use Rattle.trim_spec.specs.Graph.{Inside}
use Rattle.trim_spec.specs.Trimmed.{live_marks, picked, renumbered}

-- a table that can be trimmed: every table that passes row 15
pub record Trimmable (codes transitions : List ℕ) : Type 0 where
  pub few : length codes ≤ 65536
  pub narrow : (x : ℕ) → get_or codes x 0 < 2 ^ 48
  pub inside : Inside (length codes) transitions

-- a list, and zeros in place of the other elements
abbrev pub padded : List ℕ → ℕ → List ℕ
padded list long = list ++ replicate (long - length list) 0

-- both slices afterwards, ys and ws, and the counts
pub record Trimming (codes transitions : List ℕ) (n : Counts) (ys ws : List ℕ) : Type 0 where
  pub macrostates : n.macrostates ≡ length (picked (live_marks codes transitions) codes)
  pub transitions_left : n.transitions ≡ length (renumbered (live_marks codes transitions) transitions)
  pub codes_after : ys ≡ padded (picked (live_marks codes transitions) codes) (length codes)
  pub transitions_after : ws ≡ padded (renumbered (live_marks codes transitions) transitions) (length transitions)
