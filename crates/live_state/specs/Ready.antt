-- What a served call has passed.
use Rattle.std.specs.Prelude.{List, ℕ, ◌≤◌, length}
use Rattle.trim_spec.specs.Graph.{Inside}
use Rattle.live_spec.specs.State.{state_length_lem}

-- by row 15 and, for state, row 16
pub record Ready (codes transitions state : List ℕ) : Type 0 where
  pub few : length codes ≤ 65536
  pub inside : Inside (length codes) transitions
  pub long : state_length_lem ≤ length state
