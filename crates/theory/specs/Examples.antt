-- The rules that 01 uses in checking, and one of two components with two states each.
use Rattle.std.specs.Prelude.{[], ◌∷◌}
use Rattle.theory.specs.Rule.{Rule}

-- some time letter 1
abbrev pub F : Rule
F = record { n = 1; s = 2; initial = 0; accepting = 0; counts = 1 ∷ 1 ∷ []; clauses = 1 ∷ 0 ∷ [] }

abbrev pub D : Rule
D = record { n = 2; s = 2; initial = 0; accepting = 0; counts = 1 ∷ 0 ∷ 1 ∷ 1 ∷ []; clauses = 2 ∷ 0 ∷ 1 ∷ [] }

-- letter 0 for ever
abbrev pub E : Rule
E = record { n = 1; s = 2; initial = 0; accepting = 1; counts = 1 ∷ 0 ∷ []; clauses = 1 ∷ [] }

-- letter 1 again and again
abbrev pub I : Rule
I = record { n = 2; s = 2; initial = 0; accepting = 1; counts = 1 ∷ 1 ∷ 1 ∷ 1 ∷ []; clauses = 3 ∷ 1 ∷ 2 ∷ 0 ∷ [] }

abbrev pub Z : Rule
Z = record { n = 1; s = 1; initial = 0; accepting = 1; counts = 0 ∷ []; clauses = [] }

-- two components of two states each, the first rejecting, the second accepting
abbrev pub X : Rule
X = record { n = 4; s = 1; initial = 0; accepting = 12; counts = 1 ∷ 2 ∷ 1 ∷ 1 ∷ []; clauses = 3 ∷ 5 ∷ 0 ∷ 8 ∷ 4 ∷ [] }
