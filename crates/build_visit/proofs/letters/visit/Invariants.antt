-- `build_visit::letters::visit` meets its contract: the keys have grown by those that the letters below a lead to.
use Rattle.std.proofs.Common.{◌≡◌, false}
use Rattle.theory.specs.Rule.{Rule}
use Rattle.theory.specs.Automaton.{automaton}
use Rattle.build_spec.specs.Growth.{Grown, After}
use Rattle.build_spec.specs.Keys.{LeadsOver}
use Rattle.build_spec.specs.Reached.{ReachedKey, AllReached}
use Rattle.build_spec.specs.Tables.{RuleTables}
use Rattle.build_spec.proofs.Growth.{Upto}
use Rattle.build_visit.proofs.letters.visit.Given as goal

abbrev pub invariant-loop-a : goal.invariant-loop-a
invariant-loop-a l = record {
  room : l.g.full ≡ false;
  grown : (r : Rule) → RuleTables r l.opens l.parts l.shape → AllReached r l.parts l.shape l.fn.keys l.n
      → Grown (Upto (λ b. After l.from l.n l.fn.keys (LeadsOver (automaton r) l.ranks b)) l.a) (ReachedKey r l.parts l.shape) l.fn.keys l.n l.keys l.heads l.last l.g.m l.g.full;
}
