-- Tables that row 15 does not refuse, as plain lists of codes and transitions.
use mathlib.Core.List.{List, Memᴰ}
use Rattle.std.specs.Prelude.{ℕ, ◌^◌, ◌≤◌, ◌<◌, length}
use Rattle.sets.specs.Lists.{Ascending}
use Rattle.theory.specs.Run.{source_of, letter_of_lem, target_of}

-- for a rule of s letters: at most 65,536 codes, both lists "strictly ascending", no code "with a bit above 47", and no transition's "source, letter or target out of range"
pub record Passed (s : ℕ) (codes transitions : List ℕ) : Type 0 where
  pub few : length codes ≤ 65536
  pub codes_ascend : Ascending codes
  pub transitions_ascend : Ascending transitions
  pub narrow : (c : ℕ) → Memᴰ c codes → c < 2 ^ 48
  pub source : (t : ℕ) → Memᴰ t transitions → source_of t < length codes
  pub letter : (t : ℕ) → Memᴰ t transitions → letter_of_lem t < s
  pub target : (t : ℕ) → Memᴰ t transitions → target_of t < length codes
