-- A rule beside those of 01: rule D with both states accepting, its entries dual to D's.
use Rattle.std.specs.Prelude.{[], ◌∷◌}
use Rattle.theory.specs.Rule.{Rule}

-- state 0 leads to 1 at letter 0 and is always satisfied at letter 1; state 1 is never satisfied at letter 0 and leads to 0 at letter 1
abbrev pub DualD : Rule
DualD = record { n = 2; s = 2; initial = 0; accepting = 3; counts = 1 ∷ 1 ∷ 0 ∷ 1 ∷ []; clauses = 2 ∷ 0 ∷ 1 ∷ [] }
