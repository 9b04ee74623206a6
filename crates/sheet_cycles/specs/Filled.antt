-- The masks of the cycles that are known, and what one more cycle changes.
use Rattle.std.specs.Prelude.{◌≡◌, List, [], ℕ, ◌+◌, ◌*◌, ◌≤◌, ◌<◌, length, get_or, take, drop}
use Rattle.theory.specs.Rule.{Rule}
use Rattle.theory.specs.Truth.{truth_masks}
use Rattle.sheet_spec.specs.Computed.{learn}
use Rattle.sheet_cycles.specs.Known.{part_at, known_of, Parts}
use Rattle.sheet_cycles.specs.declared.learning.Learned.{Learned}

-- n parts of the sheet; the masks of part k stand from byte 32 * k on
pub record Filled (r : Rule) (sheet from size filled : List ℕ) (n : ℕ) : Type 0 where
  pub parts : Parts sheet from size n
  pub room : length filled ≡ 2048
  pub masks : (k : ℕ) → k < n → take (get_or size k 0) (drop (32 * k) filled) ≡ truth_masks r [] (part_at sheet from size k)

-- the cycle c is one of those known now, and was added if it is new; cycles tells how many are known
pub record Learnt (r : Rule) (sheet from size : List ℕ) (n : ℕ) (c from' size' filled' : List ℕ) (l : Learned) : Type 0 where
  pub known : known_of sheet from' size' l.cycles ≡ learn (known_of sheet from size n) c
  pub filled : Filled r sheet from' size' filled' l.cycles
  pub one : l.cycles ≤ n + 1
  pub number : l.number < l.cycles
  pub masks : take (length c) (drop (32 * l.number) filled') ≡ truth_masks r [] c
