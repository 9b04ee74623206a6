-- A rule that passes the checks is layered: its components are of one kind each, and a height falls from component to component.
use mathlib.Core.Path.{sym, ◌∙◌}
use Prim.Native.Nat.{suc, ◌≤◌, ◌<◌}
use native.Mathlib.Omega.{arith}
use Rattle.sets.proofs.Bits.{bit_high}
use Rattle.sets.proofs.Tests.{count-max}
use Rattle.theory.specs.Rule.{Rule}
use Rattle.theory.specs.Components.{reaches, components, is_smallest}
use Rattle.theory.specs.Passing.{Passing}
use Rattle.theory.specs.Automaton.{automaton}
use Rattle.theory.specs.Layered.{Layered}
use Rattle.theory_laws.proofs.Components.{height, height-in, height-out, falls, clause-leads, same-heights, few_components, component-iff, together-of-component}

module _ (R : Rule) (P : Passing R) where
  unfoldable pub layered : Layered (automaton R)
  unfolding automaton
  layered = record {
    height = height R;
    down = λ q a c p l k m b. falls R q p l k (clause-leads R q a c p m b);
    pure = λ p q l m e. P.unmixed p q l m ((component-iff R p q l m).0 e);
    top = suc R.n;
    tall = λ q l. let h = height-in R q l in let k = count-max R.n (reaches R q) in omega arith;
    edge = λ q l. let h = height-out R q l in omega arith;
    plain = λ q l. bit_high R.n R.accepting q P.formed.accepting_states l;
    few = few_components R;
    level = λ p q l m e. height-in R p l ∙ same-heights R p q l m (together-of-component R p q l m e) ∙ sym (height-in R q m);
  }

  pub some-component : 0 < components R
  some-component = let h = few_components R R.initial P.formed.initial_state in omega arith

  pub few-in-all : components R ≤ 8
  unfolding components
  few-in-all = let h = count-max R.n (is_smallest R) in let k = P.formed.few_states in omega arith
