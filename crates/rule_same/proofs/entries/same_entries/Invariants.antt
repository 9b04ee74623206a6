-- `same_entries` meets its contract: the entries of the states passed are the same.
use Rattle.std.proofs.Common.{◌≡◌, true}
use Rattle.sets.specs.Tests.{every}
use Rattle.theory.specs.Rule.{entry}
use Rattle.rule_entries.specs.Entries.{rule_of}
use Rattle.rule_same.specs.Same.{same_entry_lem}
use Rattle.rule_same.proofs.entries.same_entries.Given as goal

abbrev pub invariant-loop-q : goal.invariant-loop-q
invariant-loop-q l = every l.q (λ p. every l.h.s (λ a. same_entry_lem l.h.n (entry (rule_of l.h l.counts l.clauses) p a) (entry (rule_of l.h l.counts2 l.clauses2) p a))) ≡ true
