-- `has_high` meets its contract: no number before i is high.
use Rattle.std.proofs.Common.{◌≡◌, ℕ, ◌<◌, false, get_or}
use Rattle.table_lent.specs.Lent.{in_both, is_high}
use Rattle.table_rows.proofs.checks.has_high.Given as goal

abbrev pub invariant-loop-i : goal.invariant-loop-i
invariant-loop-i l = (k : ℕ) → k < l.i → is_high (get_or (in_both l.words l.bytes).numbers k 0) ≡ false
