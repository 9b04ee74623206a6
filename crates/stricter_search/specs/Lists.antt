-- The lists of an accepted file's table.
use Rattle.std.specs.Prelude.{◌≡◌, List, ℕ, ◌≤◌, length, Ok}
use Rattle.sets.specs.Tests.{Set}
use Rattle.theory.specs.Rule.{Rule}
use Rattle.theory.specs.Table.{ListsFrom}
use Rattle.file_spec.specs.File.{rule_in}
use Rattle.file_spec.specs.declared.Layout.{Layout}
use Rattle.file_spec.specs.Reading.{read_of}

-- the file is accepted, and codes and moves list the macrostates and transitions of its rule, begun by the start condition
pub record FileLists (file : List ℕ) (l : Layout) (start : Rule → Set) (codes moves : List ℕ) : Type 0 where
  pub read : read_of file ≡ Ok l
  pub lists : ListsFrom (rule_in file) (start (rule_in file)) codes moves
  pub few : length codes ≤ 65536
