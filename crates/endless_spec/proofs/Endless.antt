-- Of a table of demand 3.
use mathlib.Core.List.{List}
use Prim.Native.Nat.{ℕ}
use Rattle.theory.specs.Demand.{Demand3}
use Rattle.theory.specs.Rule.{Rule}
use Rattle.endless_spec.specs.Endless.{NeverTwo}

pub never_two : (r : Rule) (codes transitions : List ℕ) → Demand3 r codes transitions → NeverTwo r codes transitions
never_two r codes transitions D = D.unambiguous
