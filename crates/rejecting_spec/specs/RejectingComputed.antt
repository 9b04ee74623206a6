-- The lists of the automaton of the words that a rule rejects, computed: what they hold is `ListsRejecting` (lists-rejecting, theory_laws/proofs/RejectingDemand).
use Rattle.std.specs.Prelude.{List, ℕ}
use Rattle.theory.specs.Rule.{Rule}
use Rattle.theory.specs.TableComputed.{macrostates_from, transitions_from}
use Rattle.rejecting_spec.specs.Rejecting.{lacks_initial}

-- the reachable codes ascending, and the transitions between them
abbrev pub rejecting_macrostates : Rule → List ℕ
rejecting_macrostates r = macrostates_from r (lacks_initial r)

abbrev pub rejecting_transitions : Rule → List ℕ
rejecting_transitions r = transitions_from r (lacks_initial r)
