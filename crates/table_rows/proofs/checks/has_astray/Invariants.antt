-- `has_astray` meets its contract: no transition before i is astray.
use Rattle.std.proofs.Common.{◌≡◌, ℕ, ◌<◌, false, get_or}
use Rattle.table_lent.specs.Lent.{in_both, is_astray_lem}
use Rattle.table_rows.proofs.checks.has_astray.Given as goal

abbrev pub invariant-loop-i : goal.invariant-loop-i
invariant-loop-i l = (k : ℕ) → k < l.i → is_astray_lem l.n l.s (get_or (in_both l.words l.bytes).numbers k 0) ≡ false
