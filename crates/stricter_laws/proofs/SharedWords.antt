-- What the words that A's table and the table of B's rejected words share say of the rules.
use mathlib.Core.Path.{◌≡◌}
use mathlib.Core.Logic.{◌⊎◌, inl, inr, ⊎_elim}
use mathlib.Core.List.{List}
use Prim.Native.Nat.{ℕ, ◌≤◌, ◌<◌}
use lib.ListN.{length}
use Rattle.sets.proofs.Bools.{bif, clash}
use Rattle.theory.specs.Automaton.{automaton}
use Rattle.theory.specs.Code.{set_in}
use Rattle.theory.specs.Macrostate.{holds_initial}
use Rattle.theory.specs.Passing.{Passing}
use Rattle.theory.specs.Plan.{AcceptsWord}
use Rattle.theory.specs.Rule.{Rule}
use Rattle.theory.specs.TableComputed.{macrostates, transitions}
use Rattle.theory.specs.Word.{place, letters}
use Rattle.theory_laws.proofs.Demand.{word-run, demand3}
use Rattle.rejecting_spec.specs.Rejecting.{lacks_initial}
use Rattle.rejecting_spec.specs.RejectingComputed.{rejecting_macrostates, rejecting_transitions}
use Rattle.theory_laws.proofs.RejectingDemand.{rejecting-demand}
use Rattle.stricter_spec.specs.Search.{NoShared, Shared}
use Rattle.stricter_spec.specs.Rules.{Stricter, Against}
use Rattle.stricter_laws.proofs.OneParent.{letter-low, table-inside}
use Rattle.stricter_laws.proofs.Lassos.{lasso-run, lasso-word}

-- whether a rule accepts a word with a cycle is decided: by the truth at place 0
pub accepts-or-not : {r : Rule} → Passing r → (lead cycle : List ℕ) → 0 < length cycle → AcceptsWord r lead cycle ⊎ (AcceptsWord r lead cycle → ⊥)
unfolding place
accepts-or-not {r = r} P lead cycle h =
    let c = word-run r P lead cycle h in
    let t = c.1.truth 0 r.initial P.formed.initial_state in
    bif (set_in (automaton r) (c.0 0) r.initial) (λ e. inl (t.0 e)) (λ e. inr (λ a. clash (t.1 a) e))

module _ {a b : Rule} (P : Passing a) (Q : Passing b) (same : a.s ≡ b.s) (room-a : length (macrostates a) ≤ 65536) (room-b : length (rejecting_macrostates b) ≤ 65536) where
  -- no sequence of letters has an accepting run of each: yes
  pub none-shared : NoShared (macrostates a) (transitions a) (holds_initial a) (rejecting_macrostates b) (rejecting_transitions b) (lacks_initial b) → Stricter a b
  none-shared N lead cycle W acc =
      ⊎_elim (λ y. y)
      (λ n. let x = ((demand3 a P room-a).exact lead cycle W).0 acc in
      let y = ((rejecting-demand b Q room-b).exact lead cycle (rw same at W)).0 n in
      absurd (N (letters lead cycle) x.0 y.0 x.1 y.1))
      (accepts-or-not Q lead cycle W.repeats)

  -- a word that both share: A accepts it and B rejects it
  pub shared-against : (lead cycle : List ℕ) → Shared (macrostates a) (transitions a) (holds_initial a) (rejecting_macrostates b) (rejecting_transitions b) (lacks_initial b) lead cycle →
      Against a b lead cycle
  shared-against lead cycle S =
      let W = lasso-word _ _ (holds_initial a) a.s (λ t. letter-low P (holds_initial a) room-a) lead cycle S.repeats S.of_a in
      let I = table-inside P (holds_initial a) room-a in
      let J = table-inside Q (lacks_initial b) room-b in
      let x = lasso-run (macrostates a) (transitions a) (holds_initial a) I lead cycle S.repeats S.of_a in
      let y = lasso-run (rejecting_macrostates b) (rejecting_transitions b) (lacks_initial b) J lead cycle S.repeats S.of_b in
      record {
        word = W;
        accepted = ((demand3 a P room-a).exact lead cycle W).1 x;
        rejected = ((rejecting-demand b Q room-b).exact lead cycle (rw same at W)).1 y;
      }
