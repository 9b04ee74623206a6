-- `closures` meets its contract: the table up to q, of the least closed sets.
use Rattle.std.proofs.Common.{◌≡◌}
use Rattle.sets.specs.Masks.{mask}
use Rattle.theory.specs.Components.{reaches}
use Rattle.rule_entries.specs.Entries.{rule_of}
use Rattle.rule_reach.specs.Tables.{table}
use Rattle.rule_reach.proofs.closures.Given as goal

abbrev pub invariant-loop-q : goal.invariant-loop-q
invariant-loop-q l = l.table ≡ table l.q (λ p. mask l.fn.h.n (reaches (rule_of l.fn.h l.counts l.clauses) p))
