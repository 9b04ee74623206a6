-- `meet` meets its contract: the pairs of the transitions before place c are met.
use Rattle.std.proofs.Common.{ℕ, ◌≤◌, ◌<◌}
use Rattle.stricter_laws.specs.Pairs.{Beside}
use Rattle.stricter_laws.specs.Forest.{Marked}
use Rattle.stricter_word.proofs.explore.meet.Given as goal

abbrev pub invariant-loop-c : goal.invariant-loop-c
invariant-loop-c l = record {
  passed : (p : ℕ) → l.from ≤ p → p < l.c → p < l.to;
  marked : Marked (Beside l.nb l.moves l.from l.c l.q) l.byte l.fn.marks l.marks;
}
