-- The product of a table and a cycle as a graph.
use Rattle.std.specs.Prelude.{◌≡◌, ℕ, ◌+◌, ◌*◌, ◌<◌, length}
use mathlib.Core.List.{List, [], Memᴰ}
use Rattle.theory.specs.Run.{source_of, letter_of_lem, target_of}
use Rattle.theory.specs.Word.{next_place_lem, letter_at_lem}

-- The product of a table of n codes and a cycle: number m at place p is the node p * n + m.
-- Its edges: a listed transition over the letter at a place leads from its source there to its target at the place that follows.
pub record NodeEdge (n : ℕ) (cycle transitions : List ℕ) (x y : ℕ) : Type 0 where
  pub place : ℕ
  pub transition : ℕ
  pub inside : place < length cycle
  pub listed : Memᴰ transition transitions
  pub letter : letter_of_lem transition ≡ letter_at_lem [] cycle place
  pub source : x ≡ place * n + source_of transition
  pub target : y ≡ next_place_lem [] cycle place * n + target_of transition

-- The transitions have their sources and targets below n, and there is a mark for each node of the product
pub record Fits (n : ℕ) (cycle transitions marks : List ℕ) : Type 0 where
  pub repeats : 0 < length cycle
  pub marked : length marks ≡ length cycle * n
  pub sources : (t : ℕ) → Memᴰ t transitions → source_of t < n
  pub targets : (t : ℕ) → Memᴰ t transitions → target_of t < n
