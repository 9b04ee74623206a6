-- The table begun where the set lacks the initial state has an accepting run exactly over the words that the rule rejects, and never two.
use Prim.Native.Nat.{◌≤◌}
use lib.ListN.{length}
use Rattle.sets.specs.Masks.{bit}
use Rattle.sets.proofs.Bools.{bif, clash, not_t}
use Rattle.theory.specs.Passing.{Passing}
use Rattle.theory.specs.Rule.{Rule}
use Rattle.theory_laws.proofs.Demand.{demand-from}
use Rattle.theory_laws.proofs.Tables.{lists-from}
use Rattle.rejecting_spec.specs.Rejecting.{lacks_initial, ListsRejecting, RejectsWord, RejectingDemand}
use Rattle.rejecting_spec.specs.RejectingComputed.{rejecting_macrostates, rejecting_transitions}

module _ (r : Rule) (P : Passing r) (room : length (rejecting_macrostates r) ≤ 65536) where
  -- the set of the one run's first code is the truth at place 0: it lacks the initial state exactly if the rule rejects the word
  pub rejecting-demand : RejectingDemand r (rejecting_macrostates r) (rejecting_transitions r)
  rejecting-demand = demand-from r P (lacks_initial r) (RejectsWord r) (λ lead cycle c h. (
    λ n. bif (bit c r.initial) (λ e. absurd (n (h.0 e))) (λ e. rw e),
    λ e a. clash (h.1 a) (not_t (bit c r.initial) e),
  )) room

  pub lists-rejecting : ListsRejecting r (rejecting_macrostates r) (rejecting_transitions r)
  lists-rejecting = lists-from r P (lacks_initial r) room
