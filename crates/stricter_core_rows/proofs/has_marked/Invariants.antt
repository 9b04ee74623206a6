-- `has_marked` meets its contract: no transition before the place leads to a pair that has its mark.
use Rattle.std.proofs.Common.{cond, ℕ, ◌+◌, ◌*◌, ◌≤◌, ◌<◌, get_or}
use Rattle.stricter_spec.specs.Tags.{onto_of_lem, sparing}
use Rattle.stricter_core_rows.specs.Rows.{needed}
use Rattle.stricter_core_rows.proofs.has_marked.Given as goal

abbrev pub invariant-loop-c : goal.invariant-loop-c
invariant-loop-c l = (p : ℕ) → l.from ≤ p → p < l.c → get_or l.marks (onto_of_lem (get_or l.left p 0) * l.nb + onto_of_lem l.u) 0
    < needed l.fn.ask.other (sparing (cond l.fn.ask.second l.u (get_or l.left p 0)) l.fn.ask.k)
