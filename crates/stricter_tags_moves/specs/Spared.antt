-- Components that a step spares, as its code finds them.
use Rattle.std.specs.Prelude.{Bool, ◌||◌, List, ℕ, ◌/◌, ◌%◌, ◌^◌, eqb, ltb, get_or}
use Rattle.sets.specs.Tests.{Set}
use Rattle.build_cores.specs.Used.{class_count_lem}

-- by the number of its classes in the later core and the largest level of all its classes in the earlier one
abbrev pub spared_by_lem : ℕ → ℕ → Bool
spared_by_lem classes left = eqb classes 0 || ltb left classes

-- of the later core's ranks and the levels of the step back, whose highest nibble has the largest level of all classes
abbrev pub spared_in_lem : ℕ → List ℕ → List ℕ → Set
spared_in_lem ranks parts levels K = spared_by_lem (class_count_lem ranks (get_or parts K 0)) (get_or levels K 0 / 2 ^ 60 % 16)
