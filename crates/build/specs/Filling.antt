-- What the build of a table leaves in both slices.
use Rattle.std.specs.Prelude.{◌≡◌, List, ℕ, length}
use Rattle.std.specs.Prelude.{Result, Ok, Err}
use Rattle.refusals.specs.declared.Refusal.{Refusal}
use Rattle.build.specs.declared.Counts.{Counts}
use Rattle.sets.specs.Tests.{Set}
use Rattle.theory.specs.Rule.{Rule}
use Rattle.build.specs.Built.{room_row, built_by, slice_after, file_codes, file_moves, row_from}

-- the answer b, and the slices xs and zs afterwards, ys and ws, by the first row that refuses and the lists that are to be written
pub record Filled (row : ℕ) (codes moves xs zs : List ℕ) (b : Result Counts Refusal) (ys ws : List ℕ) : Type 0 where
  pub answer : b ≡ built_by row codes moves
  pub codes_after : ys ≡ slice_after row codes xs
  pub moves_after : ws ≡ slice_after row moves zs

-- by rows 17 and 18
abbrev pub Made : List ℕ → List ℕ → List ℕ → List ℕ → Result Counts Refusal → List ℕ → List ℕ → Type 0
Made codes moves xs zs = Filled (room_row codes moves (length xs) (length zs)) codes moves xs zs

-- by the rows of a file, then 17 and 18
abbrev pub FileFilled : (Rule → Set) → List ℕ → List ℕ → List ℕ → Result Counts Refusal → List ℕ → List ℕ → Type 0
FileFilled start file xs zs = Filled (row_from start file (length xs) (length zs)) (file_codes start file) (file_moves start file) xs zs
