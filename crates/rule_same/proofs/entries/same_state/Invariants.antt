-- `same_state` meets its contract: the entries at the letters passed are the same.
use Rattle.std.proofs.Common.{◌≡◌, true}
use Rattle.sets.specs.Tests.{every}
use Rattle.theory.specs.Rule.{entry}
use Rattle.rule_entries.specs.Entries.{rule_of}
use Rattle.rule_same.specs.Same.{same_entry_lem}
use Rattle.rule_same.proofs.entries.same_state.Given as goal

abbrev pub invariant-loop-a : goal.invariant-loop-a
invariant-loop-a l = every l.a (λ b. same_entry_lem l.h.n (entry (rule_of l.h l.counts l.clauses) l.q b) (entry (rule_of l.h l.counts2 l.clauses2) l.q b)) ≡ true
