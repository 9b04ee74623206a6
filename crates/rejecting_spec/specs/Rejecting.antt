-- The automaton of the words that a rule rejects: the macrostates reached from those whose set lacks the initial state.
use Rattle.std.specs.Prelude.{not, List, ℕ}
use Rattle.sets.specs.Masks.{bit}
use Rattle.sets.specs.Tests.{Set}
use Rattle.theory.specs.Demand.{DemandFrom}
use Rattle.theory.specs.Plan.{AcceptsWord}
use Rattle.theory.specs.Rule.{Rule}
use Rattle.theory.specs.Table.{ListsFrom}

-- 02: "the table of B begun, with K and k 0, from all cores whose set lacks B's initial state": the start condition.
-- begun (lacks_initial r) are the macrostates where a run may begin
abbrev pub lacks_initial : Rule → Set
lacks_initial r c = not (bit c r.initial)

-- what two lists hold that list the macrostates reached from there and their transitions, all of them and no others
abbrev pub ListsRejecting : Rule → List ℕ → List ℕ → Type 0
ListsRejecting r = ListsFrom r (lacks_initial r)

-- the rule does not accept the word
abbrev pub RejectsWord : Rule → List ℕ → List ℕ → Type 0
RejectsWord r lead cycle = AcceptsWord r lead cycle → ⊥

-- demand 3 turned round: the automaton has an accepting run exactly when the rule does not accept the word
abbrev pub RejectingDemand : Rule → List ℕ → List ℕ → Type 0
RejectingDemand r = DemandFrom r (lacks_initial r) (RejectsWord r)
