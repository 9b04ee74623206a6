-- `build_transitions::cores::emit` meets its contract: the transitions into the cores of the places below j are written.
use Rattle.std.proofs.Common.{◌≡◌, ◌≤◌, false, length}
use Rattle.theory.specs.Rule.{Rule}
use Rattle.theory.specs.Automaton.{automaton}
use Rattle.build_spec.specs.Emission.{Emitted, Done}
use Rattle.build_spec.specs.Reached.{AllReached}
use Rattle.build_spec.specs.Tables.{RuleTables}
use Rattle.build_transitions.proofs.cores.emit.Given as goal

abbrev pub invariant-loop-j : goal.invariant-loop-j
invariant-loop-j l = record {
  room : l.g.full ≡ false;
  fits : l.g.m ≤ length l.out;
  written : (r : Rule) → RuleTables r l.opens l.parts l.shape → AllReached r l.parts l.shape l.keys (length l.keys)
      → Emitted (Done (automaton r) l.shape.s l.keys (length l.keys) l.j) l.fn.out 0 l.out l.g.m l.g.full;
}
