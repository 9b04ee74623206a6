-- The equality of lists, tested.
use Rattle.std.specs.Prelude.{Bool, true, false, ◌&&◌, List, [], ◌∷◌, ℕ, eqb}

-- whether two lists are equal, element by element
unfoldable pub same_lists : List ℕ → List ℕ → Bool
same_lists [] [] = true
same_lists [] (y ∷ ys) = false
same_lists (x ∷ xs) [] = false
same_lists (x ∷ xs) (y ∷ ys) = eqb x y && same_lists xs ys
