-- `fill_cycle` meets its contract: before each height the masks are right for the heights below it.
use Rattle.rule_entries.specs.Entries.{rule_of}
use Rattle.judge_place.specs.Rounds.{Part}
use Rattle.judge_masks.proofs.word.fill_cycle.Given as goal

abbrev pub invariant-loop-height : goal.invariant-loop-height
invariant-loop-height l = Part (rule_of l.h l.counts l.clauses) l.cycle l.height l.masks
