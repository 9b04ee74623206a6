-- `nested_state` meets its contract: no entry at a letter before a is nested.
use Rattle.std.proofs.Common.{◌≡◌, false}
use Rattle.sets.specs.Tests.{some_below}
use Rattle.theory.specs.Rule.{entry}
use Rattle.rule_entries.specs.Entries.{rule_of}
use Rattle.file_spec.specs.RuleRows.{nested}
use Rattle.file_clauses.proofs.nested_state.Given as goal

abbrev pub invariant-loop-a : goal.invariant-loop-a
invariant-loop-a l = some_below l.a (λ b. nested l.h.n (entry (rule_of l.h l.counts l.clauses) l.q b)) ≡ false
