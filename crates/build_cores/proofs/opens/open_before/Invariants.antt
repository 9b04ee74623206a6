-- `build_cores::opens::open_before` meets its contract: the states below q whose entry is satisfied.
use Rattle.std.proofs.Common.{◌≡◌}
use Rattle.sets.specs.Masks.{mask}
use Rattle.rule_entries.specs.Entries.{rule_of}
use Rattle.build_cores.proofs.Table.{met_by_lem}
use Rattle.build_cores.proofs.opens.open_before.Given as goal

abbrev pub invariant-loop-q : goal.invariant-loop-q
invariant-loop-q l = l.found ≡ mask l.q (met_by_lem (rule_of l.h l.counts l.clauses) l.letter l.opened)
