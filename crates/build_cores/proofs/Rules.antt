-- The parts of a rule's automaton.
use mathlib.Core.Path.{ap, ◌∙◌}
use Prim.Native.Nat.{ℕ}
use native.Mathlib.Omega.{arith}
use native.Mathlib.Nat.{zero-add}
use lib.Dec.{eqb}
use Rattle.sets.specs.Masks.{mask}
use Rattle.sets.specs.Lists.{tabulate}
use Rattle.sets.proofs.Lists.{tabulate-at}
use Rattle.theory.specs.Rule.{Rule}
use Rattle.theory.specs.Components.{component}
use Rattle.theory.specs.Passing.{Passing}
use Rattle.theory.specs.Automaton.{automaton}
use Rattle.theory_laws.proofs.Components.{few_components}
use Rattle.theory_laws.proofs.Layers.{few-in-all}
use Rattle.build_cores.specs.Parts.{Parts}

-- the masks of the components, one for each number up to 7
pub parts-of : (r : Rule) → Passing r → Parts (automaton r) (tabulate 8 (λ k. mask r.n (λ q. eqb (component r q) k)) 0)
unfolding automaton
parts-of r P = record {
  few_states = P.formed.few_states;
  few_components = few-in-all r P;
  known = λ q l. few_components r q l;
  part = λ c l. let h = few-in-all r P in tabulate-at 8 (λ k. mask r.n (λ q. eqb (component r q) k)) 0 c (omega arith) ∙ ap (λ (k : ℕ). mask r.n (λ q. eqb (component r q) k)) (zero-add c);
}
