-- A table as a graph: its numbers are the nodes.
use Rattle.std.specs.Prelude.{◌≡◌, ℕ, ◌<◌}
use mathlib.Core.List.{List, Memᴰ}
use Rattle.theory.specs.Run.{source_of, target_of}

-- some listed transition, over whatever letter, leads from x to y
pub record Step (transitions : List ℕ) (x y : ℕ) : Type 0 where
  pub transition : ℕ
  pub listed : Memᴰ transition transitions
  pub source : source_of transition ≡ x
  pub target : target_of transition ≡ y

-- the transitions have their sources and targets below n
pub record Inside (n : ℕ) (transitions : List ℕ) : Type 0 where
  pub sources : (t : ℕ) → Memᴰ t transitions → source_of t < n
  pub targets : (t : ℕ) → Memᴰ t transitions → target_of t < n
