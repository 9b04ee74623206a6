-- `fill_lead` meets its contract: the masks from i on are those of the lead-in from i on.
use Rattle.std.proofs.Common.{◌≡◌, length, drop}
use Rattle.rule_entries.specs.Entries.{rule_of}
use Rattle.judge_place.specs.Starts.{back_over}
use Rattle.judge_masks.proofs.word.fill_lead.Given as goal

abbrev pub invariant-loop-i : goal.invariant-loop-i
invariant-loop-i l = drop l.i l.masks ≡ back_over (rule_of l.h l.counts l.clauses) (drop l.i l.lead) (drop (length l.lead) l.fn.masks)
