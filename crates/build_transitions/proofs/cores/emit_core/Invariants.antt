-- `build_transitions::cores::emit_core` meets its contract: the transitions over the letters below a are written.
use Rattle.std.proofs.Common.{◌≡◌, ◌≤◌, false, length}
use Rattle.theory.specs.Rule.{Rule}
use Rattle.theory.specs.Automaton.{automaton}
use Rattle.build_spec.specs.Emission.{Emitted, Into}
use Rattle.build_spec.specs.Reached.{AllReached}
use Rattle.build_spec.specs.Tables.{RuleTables}
use Rattle.build_transitions.proofs.cores.emit_core.Given as goal

abbrev pub invariant-loop-a : goal.invariant-loop-a
invariant-loop-a l = record {
  room : l.g.full ≡ false;
  fits : l.g.m ≤ length l.out;
  written : (r : Rule) → RuleTables r l.opens l.parts l.shape → AllReached r l.parts l.shape l.keys (length l.keys)
      → Emitted (Into (automaton r) l.a l.keys (length l.keys) l.ranks) l.fn.out l.m l.out l.g.m l.g.full;
}
