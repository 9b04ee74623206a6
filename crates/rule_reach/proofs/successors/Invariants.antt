-- `successors` meets its contract: the states named at the letters before a.
use Rattle.std.proofs.Common.{◌≡◌, ℕ, ◌<◌}
use Rattle.sets.specs.Tests.{some_below}
use Rattle.sets.specs.Masks.{bit}
use Rattle.theory.specs.Rule.{entry}
use Rattle.theory.specs.Components.{named}
use Rattle.rule_entries.specs.Entries.{rule_of}
use Rattle.rule_reach.proofs.successors.Given as goal

abbrev pub invariant-loop-a : goal.invariant-loop-a
invariant-loop-a l = (p : ℕ) → p < 8 → bit l.found p ≡ some_below l.a (λ b. named (entry (rule_of l.h l.counts l.clauses) l.q b) p)
