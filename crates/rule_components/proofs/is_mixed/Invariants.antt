-- `is_mixed` meets its contract: no class passed holds both kinds.
use Rattle.std.proofs.Common.{◌≡◌, false}
use Rattle.sets.specs.Tests.{some_below}
use Rattle.rule_components.proofs.Mixed.{both_by}
use Rattle.rule_components.proofs.is_mixed.Given as goal

abbrev pub invariant-loop-q : goal.invariant-loop-q
invariant-loop-q l = some_below l.q (both_by l.reach l.n l.accepting) ≡ false
