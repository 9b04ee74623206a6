-- What is reached along edges.
use Rattle.std.specs.Prelude.{List, ℕ, ◌<◌}
use Rattle.theory.specs.Rule.{Rule}
use Rattle.theory.specs.Automaton.{automaton}
use Rattle.build_spec.specs.Chains.{key_at}
use Rattle.build_spec.specs.declared.Shape.{Shape}
use Rattle.build_spec.specs.Keys.{KeyEdge, First}

-- reached from the numbers of `first` along the edges
pub data Reached (first : ℕ → Type 0) (edge : ℕ → ℕ → Type 0) : ℕ → Type 0 where
  begins : {x : ℕ} → first x → Reached first edge x
  leads : {x y : ℕ} → Reached first edge x → edge x y → Reached first edge y

-- y is a key that is reached from those where a run may begin
abbrev pub ReachedKey : Rule → List ℕ → Shape → ℕ → Type 0
ReachedKey r parts shape = Reached (First r parts shape.components shape.holds) (KeyEdge (automaton r) parts shape.components shape.s)

-- the first n keys are such
abbrev pub AllReached : Rule → List ℕ → Shape → List ℕ → ℕ → Type 0
AllReached r parts shape xs n = (p : ℕ) → p < n → ReachedKey r parts shape (key_at xs p)
