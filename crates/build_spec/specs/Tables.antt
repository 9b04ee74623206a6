-- The numbers and tables of a rule that the closure reads.
use Rattle.std.specs.Prelude.{◌≡◌, ◌&&◌, List, ℕ, ◌<◌, leb, ltb, get_or}
use Rattle.sets.specs.Masks.{mask}
use Rattle.theory.specs.Rule.{Rule}
use Rattle.theory.specs.Passing.{Passing}
use Rattle.theory.specs.Automaton.{automaton}
use Rattle.build_cores.specs.Vectors.{rank_at}
use Rattle.build_cores.specs.Parts.{Parts}
use Rattle.build_cores.specs.Opens.{Opens}
use Rattle.build_spec.specs.declared.Shape.{Shape}

-- shape has the numbers of the rule r, parts the masks of its components; r passes the checks
pub record Shaped (r : Rule) (parts : List ℕ) (shape : Shape) : Type 0 where
  pub passing : Passing r
  pub masks : Parts (automaton r) parts
  pub letters_are : shape.s ≡ r.s
  pub components_are : shape.components ≡ (automaton r).components
  pub accepting_are : shape.accepting ≡ r.accepting
  pub initial_is : shape.initial ≡ r.initial

-- opens is its table of open states besides
pub record RuleTables (r : Rule) (opens parts : List ℕ) (shape : Shape) : Type 0 where
  pub shaped : Shaped r parts shape
  pub table : Opens (automaton r) r.s opens

-- in place j the states of rank 1 to j
abbrev pub Lowest : ℕ → List ℕ → Type 0
Lowest ranks low = (j : ℕ) → j < 16 → get_or low j 0 ≡ mask 8 (λ p. ltb 0 (rank_at ranks p) && leb (rank_at ranks p) j)
