-- `has_flags` meets its contract: no byte before the index is above `most`.
use Rattle.std.proofs.Common.{ℕ, ◌<◌, ◌≤◌, get_or}
use Rattle.live_arrive.proofs.has_flags.Given as goal

abbrev pub invariant-loop-v : goal.invariant-loop-v
invariant-loop-v l = (j : ℕ) → j < l.v-index → get_or l.v-items j 0 ≤ l.most
