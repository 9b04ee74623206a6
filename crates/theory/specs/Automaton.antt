-- The rule as the theory takes it: an automaton whose states are ordered into components.
use Rattle.std.specs.Prelude.{List, ℕ}
use Rattle.sets.specs.Tests.{Set}
use Rattle.sets.specs.Masks.{bit}
use Rattle.theory.specs.Rule.{Rule, entry}
use Rattle.theory.specs.Components.{component, components}

pub record Automaton : Type 0 where
  -- the states are those below n
  pub n : ℕ
  pub accepting : Set
  -- the number of a state's component, and how many components there are
  pub component : ℕ → ℕ
  pub components : ℕ
  -- the clauses of a state at a letter
  pub entry : ℕ → ℕ → List ℕ

unfoldable pub automaton : Rule → Automaton
automaton r = record { n = r.n; accepting = bit r.accepting; component = component r; components = components r; entry = entry r }
