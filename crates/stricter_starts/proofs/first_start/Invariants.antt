-- `first_start` meets its contract: no pair of the rows before the place is a start pair.
use Rattle.std.proofs.Common.{◌≡◌, true, not, ℕ, ◌*◌, ◌<◌, length, get_or}
use Rattle.sets.specs.Masks.{bit}
use Rattle.stricter_laws.specs.Tests.{starts_in}
use Rattle.stricter_starts.proofs.first_start.Given as goal

abbrev pub invariant-loop-i : goal.invariant-loop-i
invariant-loop-i l = (y : ℕ) → y < l.i * length l.bcodes → 0 < get_or l.marks y 0
    → starts_in l.acodes l.bcodes (λ c. bit c l.ainitial) (λ c. not (bit c l.binitial)) y ≡ true → ⊥
