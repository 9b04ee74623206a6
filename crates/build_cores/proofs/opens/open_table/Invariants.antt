-- `build_cores::opens::open_table` meets its contract: the places below i are filled.
use Rattle.std.proofs.Common.{◌≡◌, ℕ, ◌/◌, ◌%◌, ◌<◌, length, get_or}
use Rattle.theory.specs.Automaton.{automaton}
use Rattle.rule_entries.specs.Entries.{rule_of}
use Rattle.build_cores.specs.Opens.{open_before_lem}
use Rattle.build_cores.proofs.opens.open_table.Given as goal

abbrev pub invariant-loop-i : goal.invariant-loop-i
invariant-loop-i l = record {
  long : length l.opens ≡ 4096;
  filled : (j : ℕ) → j < l.i → get_or l.opens j 0 ≡ open_before_lem (automaton (rule_of l.h l.counts l.clauses)) (j / 256) (j % 256);
}
