-- `leads` meets its contract: no transition of the row of j before the place leads to a pair that has its mark.
use Rattle.std.proofs.Common.{ℕ, ◌*◌, ◌≤◌, ◌<◌, get_or}
use Rattle.slice_search.specs.Places.{below}
use Rattle.stricter_spec.specs.Tags.{untagged}
use Rattle.stricter_core_rows.proofs.Steps.{Missed}
use Rattle.stricter_core_rows.proofs.leads.Given as goal

abbrev pub invariant-loop-p : goal.invariant-loop-p
invariant-loop-p l = (o : ℕ) → below (l.j * 16777216) (untagged l.right) ≤ o → o < l.p
    → Missed l.nb l.left l.right l.marks l.fn.ask.second l.fn.ask.k l.fn.ask.other l.cuts (get_or l.right o 0)
