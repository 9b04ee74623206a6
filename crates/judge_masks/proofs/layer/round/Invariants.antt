-- `round` meets its contract: a walk over the places from the last on.
use Rattle.std.proofs.Common.{ℕ, ◌<◌, get_or}
use Rattle.rule_entries.specs.Entries.{rule_of}
use Rattle.judge_place.proofs.Rounds.{Walk}
use Rattle.judge_masks.proofs.layer.round.Given as goal

abbrev pub invariant-loop-p : goal.invariant-loop-p
invariant-loop-p l = ((i : ℕ) → get_or l.masks i 0 < 256) × Walk (rule_of l.h l.counts l.clauses) l.cycle l.layer l.fn.masks l.masks l.changed l.p
