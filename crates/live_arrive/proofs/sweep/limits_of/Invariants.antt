-- `limits_of` meets its contract: the limits before the index are written.
use Rattle.std.proofs.Common.{◌≡◌, ℕ, ◌<◌, get_or}
use Rattle.live_arrive.specs.Tried.{limit_of_lem}
use Rattle.live_arrive.proofs.sweep.limits_of.Given as goal

abbrev pub invariant-loop-l : goal.invariant-loop-l
invariant-loop-l l = (z : ℕ) → z < l.l → get_or l.limit-items z 0 ≡ limit_of_lem l.s l.n l.letter z
