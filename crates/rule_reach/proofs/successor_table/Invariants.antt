-- `successor_table` meets its contract: the table up to q.
use Rattle.std.proofs.Common.{◌≡◌}
use Rattle.sets.specs.Masks.{mask}
use Rattle.theory.specs.Components.{leads}
use Rattle.rule_entries.specs.Entries.{rule_of}
use Rattle.rule_reach.specs.Tables.{table}
use Rattle.rule_reach.proofs.successor_table.Given as goal

abbrev pub invariant-loop-q : goal.invariant-loop-q
invariant-loop-q l = l.table ≡ table l.q (λ p. mask l.h.n (leads (rule_of l.h l.counts l.clauses) p))
