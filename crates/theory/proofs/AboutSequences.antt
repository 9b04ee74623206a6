-- Acceptance and rejection over endless sequences: what holds of 01's rules F ("some time letter 1") and E ("letter 0 for ever"), and what does not.
use mathlib.Core.Path.{◌≡◌, refl, sym, ap}
use mathlib.Core.Bool.{true, false, true≢false}
use mathlib.Core.List.Memᴰ
use mathlib.Core.List.{[], Memᴰ}
use Prim.Native.Nat.{ℕ, zero, suc}
use native.Mathlib.Omega.{arith}
use Rattle.sets.specs.Lists.{sum}
use Rattle.sets.specs.Masks.{bit}
use Rattle.sets.proofs.Bits.{bit-none}
use Rattle.sets.proofs.Bools.{clash}
use Rattle.theory.specs.Automaton.{automaton}
use Rattle.theory.specs.Examples.{F, E}
use Rattle.theory.specs.Rule.{entry}
use Rattle.theory.specs.Sequence.{Reaches, here, on, to_each, to_members, AcceptsSequence, RejectsSequence}

abbrev zeros : ℕ → ℕ
zeros i = 0

-- letter 1, then 0 for ever
abbrev once : ℕ → ℕ
once zero = 1
once (suc i) = 0

-- ---- acceptance

-- E does not accept 1 0 0 0 ..: at the letter of step 0 its state has no clause. By the letters of the next steps it would
pub E-not-once : AcceptsSequence E once → ⊥
unfolding automaton entry sum
E-not-once P = let m : Memᴰ (P.pick 0 0) [] = P.valid 0 0 here in elim m [ ]

-- the empty clause everywhere: nothing else is reached
abbrev empty : ℕ → ℕ → ℕ
empty q i = 0

alone : (w : ℕ → ℕ) (a x q i : ℕ) → Reaches (to_each (automaton F) w empty) a x q i → (q ≡ a) × (i ≡ x)
alone w a x q i here = (refl, refl)
alone w a x q i (on r j c e s) = clash e.1 (bit-none r)

-- F accepts 1 0 0 0 ..
pub F-accepts-once : AcceptsSequence F once
unfolding automaton entry sum
F-accepts-once = record {
  pick = empty;
  valid = λ q i c. let (e, f) = alone once 0 0 q i c in rw (e, f) (Memᴰ.head refl);
  leaves = λ q i c a. record { steps = 1; left = λ r j d l s. let (e, f) = alone once q i r j d in omega arith };
}

-- F does not accept letter 0 for ever: the only plan stays in a rejecting component
pub F-not-zeros : AcceptsSequence F zeros → ⊥
unfolding automaton entry sum bit
F-not-zeros P = let L = P.leaves 0 0 here refl in L.left 0 L.steps (stays L.steps) (omega arith) refl
  where
    stays : (k : ℕ) → Reaches (to_each (automaton F) zeros P.pick) 0 0 0 k
    stays zero = here
    stays (suc k) =
        let e : P.pick 0 k ≡ 1 = Memᴰ.eq_of_singleton (P.valid 0 k (stays k)) in
        on 0 (suc k) (stays k) (omega arith, ap (λ (m : ℕ). bit m 0) e) refl

-- E accepts letter 0 for ever: its component is accepting, and the plan may stay
pub E-accepts-zeros : AcceptsSequence E zeros
unfolding automaton entry sum bit
E-accepts-zeros = record {
  pick = λ q i. 1;
  valid = λ q i c. rw (only q i c) (Memᴰ.head refl);
  leaves = λ q i c a. absurd (true≢false (rw (only q i c) at a));
}
  where
    only : (q i : ℕ) → Reaches (to_each (automaton E) zeros (λ p j. 1)) 0 0 q i → q ≡ 0
    only q i here = refl
    only q i (on r j c e s) = omega (arith, e.0)

-- ---- rejection

-- F does not reject 1 0 0 0 ..: the empty clause has no member. To pick a clause, and reject by all its states, would reject it
pub F-not-rejects-once : RejectsSequence F once → ⊥
unfolding automaton entry sum
F-not-rejects-once R = let (l, b) = R.valid 0 0 here 0 (Memᴰ.head refl) in clash b (bit-none (R.member 0 0 0))

-- F rejects letter 0 for ever: from the one clause its one state, for ever
pub F-rejects-zeros : RejectsSequence F zeros
unfolding automaton entry sum bit
F-rejects-zeros = record {
  member = λ q i c. 0;
  valid = λ q i d c m. (omega arith, ap (λ (k : ℕ). bit k 0) (Memᴰ.eq_of_singleton (rw (only q i d) at m)));
  leaves = λ q i d a. absurd (true≢false (sym (rw (only q i d) at a)));
}
  where
    only : (q i : ℕ) → Reaches (to_members (automaton F) zeros (λ p j c. 0)) 0 0 q i → q ≡ 0
    only q i here = refl
    only q i (on r j c e s) = e.2

-- E does not reject letter 0 for ever: whatever members there are, they stay in an accepting component
pub E-not-rejects-zeros : RejectsSequence E zeros → ⊥
unfolding automaton entry sum bit
E-not-rejects-zeros R = let L = R.leaves 0 0 here refl in L.left 0 L.steps (stays L.steps) (omega arith) refl
  where
    stays : (k : ℕ) → Reaches (to_members (automaton E) zeros R.member) 0 0 0 k
    stays zero = here
    stays (suc k) = let (l, b) = R.valid 0 k (stays k) 1 (Memᴰ.head refl) in on 0 (suc k) (stays k) (1, Memᴰ.head refl, omega arith) refl
