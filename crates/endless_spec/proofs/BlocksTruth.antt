-- The sequence 0 1 0 0 1 0 0 0 1 .., which never repeats, by the definitions: F ("some time letter 1") accepts it, E ("letter 0 for ever") rejects it.
use mathlib.Core.Path.{◌≡◌, refl, ap, ◌∙◌}
use mathlib.Core.Logic.{◌⊎◌, inl, inr, ⊎_elim}
use mathlib.Core.Bool.{true}
use mathlib.Core.List.Memᴰ
use mathlib.Core.List.{List, [], ◌∷◌, Memᴰ}
use Prim.Native.Nat.{ℕ, zero, suc, ◌<◌}
use native.Mathlib.Omega.{arith}
use lib.ListN.{get_or}
use Rattle.sets.specs.Lists.{sum}
use Rattle.sets.specs.Masks.{bit}
use Rattle.sets.proofs.Bits.{bit-none}
use Rattle.sets.proofs.Bools.{clash}
use Rattle.theory.specs.Automaton.{automaton}
use Rattle.theory.specs.Code.{component_in, classes_in}
use Rattle.theory.specs.Examples.{F, E}
use Rattle.theory.specs.Macrostate.{begun, is_accepting_lem}
use Rattle.theory.specs.Rule.{entry}
use Rattle.theory.specs.Run.{AcceptingRun}
use Rattle.theory.specs.Sequence.{Reaches, here, on, to_each, to_members, AcceptsAt, AcceptsSequence, RejectsSequence}
use Rattle.theory.specs.Table.{ListsReachable}
use Rattle.theory.proofs.AboutExamples.{macrostates-F, transitions-F}
use Rattle.theory_laws.proofs.DemandCases.{passing-F}
use Rattle.theory_laws.proofs.Tables.{lists-reachable}
use Rattle.rejecting_spec.specs.Rejecting.{lacks_initial}
use Rattle.rejecting_spec.specs.RejectingComputed.{rejecting_macrostates, rejecting_transitions}
use Rattle.rejecting_spec.proofs.Cases.{codes-E, moves-E}
use Rattle.endless_spec.specs.Endless.{TellsTruth}
use Rattle.endless_spec.proofs.Blocks.{blocks, number_from, block_run_lem, within-from, moves_from, again-from, starts, block_run}
use Rattle.endless_spec.proofs.Cases.{codes_f, transitions_f}
use Rattle.endless_spec.proofs.Graphs.{path-on}
use Rattle.endless_spec.proofs.Truth.{accepting-truth}

-- the two steps before the first letter 1 is passed
data First : ℕ → ℕ → Type 0 where
  zeroth : First 0 0
  next : First 0 1

first-low : {q i : ℕ} → First q i → i < 2
first-low zeroth = omega arith
first-low next = omega arith

-- ---- F accepts it: over letter 0 by the clause of its state, over letter 1 by the empty one, after which nothing is reached

abbrev pick : ℕ → ℕ → ℕ
pick q zero = 1
pick q (suc i) = 0

picks : (q i : ℕ) → Reaches (to_each (automaton F) blocks pick) 0 0 q i → First q i
unfolding automaton
picks q i here = zeroth
picks q i (on {q = p} {i = j} r m c e s) = after p j r m (picks p j c) e s
  where
    after : (p j r m : ℕ) → First p j → to_each (automaton F) blocks pick p j r → m ≡ suc j → First r m
    after p j r m zeroth e s = let z : r ≡ 0 = omega (arith, e.0) in rw (z, s) next
    after p j r m next e s = clash e.1 (bit-none r)

picks-valid : (q i : ℕ) → First q i → Memᴰ (pick q i) ((automaton F).entry q (blocks i))
unfolding automaton entry sum
picks-valid q i zeroth = Memᴰ.head refl
picks-valid q i next = Memᴰ.head refl

pub F-accepts-blocks : AcceptsSequence F blocks
F-accepts-blocks = record {
  pick = pick;
  valid = λ q i c. picks-valid q i (picks q i c);
  leaves = λ q i c a. record { steps = 2; left = λ r j d l s. let k = first-low (picks r j (path-on _ c d)) in omega arith };
}

-- ---- E rejects it: over letter 0 by the state of its one clause; over letter 1 there is no clause

abbrev member : ℕ → ℕ → ℕ → ℕ
member q i c = 0

names : (q i : ℕ) → Reaches (to_members (automaton E) blocks member) 0 0 q i → First q i
unfolding automaton entry sum
names q i here = zeroth
names q i (on {q = p} {i = j} r m c e s) = after p j r m (names p j c) e s
  where
    after : (p j r m : ℕ) → First p j → to_members (automaton E) blocks member p j r → m ≡ suc j → First r m
    after p j r m zeroth e s = rw (e.2, s) next
    after p j r m next e s = let n : Memᴰ e.0 [] = e.1 in elim n [ ]

names-valid : (q i : ℕ) → First q i → (c : ℕ) → Memᴰ c ((automaton E).entry q (blocks i)) → (member q i c < (automaton E).n) × (bit c (member q i c) ≡ true)
unfolding automaton entry sum bit
names-valid q i zeroth c m = (omega arith, ap (λ (k : ℕ). bit k 0) (Memᴰ.eq_of_singleton m))
names-valid q i next c m = let n : Memᴰ c [] = m in elim n [ ]

pub E-rejects-blocks : RejectsSequence E blocks
E-rejects-blocks = record {
  member = member;
  valid = λ q i d. names-valid q i (names q i d);
  leaves = λ q i c a. record { steps = 2; left = λ r j d l s. let k = first-low (names r j (path-on _ c d)) in omega arith };
}

-- ---- and has its run in the table of the words that E rejects: the numbers of F's run

abbrev codes_e : List ℕ
codes_e = 1 ∷ 256 ∷ 17592186044672 ∷ []

initial-E : begun (lacks_initial E) 256 ≡ true
unfolding begun bit component_in classes_in
initial-E = refl

accepting-E : is_accepting_lem (get_or codes_e 1 0) ≡ true
unfolding is_accepting_lem classes_in
accepting-E = refl

block-run-listed : AcceptingRun codes_e transitions_f (lacks_initial E) blocks block_run_lem
block-run-listed = record {
  run = record { within = λ i. within-from i 1 1 1 (omega arith); begins = initial-E; moves = λ i. moves_from i 1 1 1 (starts 0) };
  again = λ i. let (j, l, e) = again-from i 1 1 1 in (j, l, ap (λ (k : ℕ). is_accepting_lem (get_or codes_e k 0)) e ∙ accepting-E);
}

pub block-run-E : AcceptingRun (rejecting_macrostates E) (rejecting_transitions E) (lacks_initial E) blocks block_run_lem
block-run-E = rw (codes-E, moves-E) block-run-listed

-- ---- what the run tells: F accepts the rest of the sequence from every step on

lists-F : ListsReachable F codes_f transitions_f
lists-F = rw (macrostates-F, transitions-F) at (lists-reachable F passing-F (rw macrostates-F (omega arith)))

pub truth-F : TellsTruth F codes_f transitions_f
truth-F = accepting-truth F passing-F codes_f transitions_f lists-F (omega arith)

held_by : (i x n c : ℕ) → (x ≡ 1) ⊎ (x ≡ 2) → bit (get_or codes_f (number_from i x n c) 0) 0 ≡ true
unfolding bit
held_by zero x n c h = ⊎_elim (λ e. rw e refl) (λ e. rw e refl) h
held_by (suc i) x n zero h = held_by i 1 (suc n) (suc n) (inl refl)
held_by (suc i) x n (suc c) h = held_by i 2 n c (inr refl)

pub F-accepts-rest : (i : ℕ) → AcceptsAt (automaton F) blocks 0 i
F-accepts-rest i = (truth-F.holds blocks block_run_lem block_run 0 i (omega arith)).0 (held_by i 1 1 1 (inl refl))
