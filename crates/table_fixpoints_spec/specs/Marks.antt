-- Marks along the transitions over a letter, at a place of a cycle, and the order in which transitions are taken.
use Rattle.std.specs.Prelude.{Bool, false, ◌&&◌, ◌||◌, cond, List, [], ◌∷◌, ℕ, suc, ◌+◌, ◌-◌, ◌*◌, eqb, length, get_or}
use Rattle.sets.specs.Lists.{tabulate}
use Rattle.theory.specs.Run.{source_of, letter_of_lem, target_of}
use Rattle.theory.specs.Word.{next_place_lem, letter_at_lem}
use Rattle.graph_walks.specs.Marks.{marked, is_new}

-- transitions over a letter, their sources numbered from here, their targets from there on
module _ (letter here there : ℕ) where
  unfoldable pub marked_over : ℕ → List ℕ → List ℕ
  marked_over t ms = cond (eqb (letter_of_lem t) letter) (marked (here + source_of t) (there + target_of t) ms) ms

  unfoldable pub is_new_over : ℕ → List ℕ → Bool
  is_new_over t ms = eqb (letter_of_lem t) letter && is_new (here + source_of t) (there + target_of t) ms

  unfoldable pub marked_all : List ℕ → List ℕ → List ℕ
  marked_all [] ms = ms
  marked_all (t ∷ ts) ms = marked_all ts (marked_over t ms)

  unfoldable pub is_new_all : List ℕ → List ℕ → Bool
  is_new_all [] ms = false
  is_new_all (t ∷ ts) ms = is_new_over t ms || is_new_all ts (marked_over t ms)

-- the nodes at place p of a cycle
module _ (n : ℕ) (cycle transitions : List ℕ) where
  abbrev pub marked_at : ℕ → List ℕ → List ℕ
  marked_at p ms = marked_all (letter_at_lem [] cycle p) (p * n) (next_place_lem [] cycle p * n) transitions ms

  abbrev pub is_new_at : ℕ → List ℕ → Bool
  is_new_at p ms = is_new_all (letter_at_lem [] cycle p) (p * n) (next_place_lem [] cycle p * n) transitions ms

-- the transitions from the last to the first, and in the order in which a sweep takes them
unfoldable pub turned : List ℕ → List ℕ
turned ts = tabulate (length ts) (λ i. get_or ts (length ts - suc i) 0) 0

abbrev pub ordered : Bool → List ℕ → List ℕ
ordered back ts = cond back (turned ts) ts
