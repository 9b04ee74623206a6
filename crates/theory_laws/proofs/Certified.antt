-- Sequences of sets with a certificate, and runs as sequences of cores: what the proof of demand 3 speaks of.
use mathlib.Core.Path.{◌≡◌}
use mathlib.Core.Bool.{true, false, ◌&&◌, not, cond}
use Prim.Native.Nat.{ℕ, zero, suc, ◌≤◌, ◌<◌}
use lib.Dec.{eqb, leb}
use Rattle.sets.specs.Tests.{Set, largest}
use Rattle.theory.specs.Rule.{satisfies}
use Rattle.theory.specs.Automaton.{Automaton}
use Rattle.theory.specs.Core.{is_open, settled, open_of_lem, next_component_lem}
use Rattle.theory.specs.CoreComputed.{level_of, rank_of}

module _ (A : Automaton) where
  module _ (nx w : ℕ → ℕ) (S : ℕ → Set) where
    -- nx is the place after a place and w its letter: for the steps of a run, nx is suc
    -- q at i is discharged within d steps
    unfoldable pub discharged : ℕ → ℕ → Set
    discharged i zero q = false
    discharged i (suc d) q = is_open A (S i) q && settled A (S (nx i)) (discharged (nx i) d) q (A.entry q (w i))

    pub record Certified : Type 0 where
      pub exact : (i q : ℕ) → q < A.n → S i q ≡ satisfies A.n (S (nx i)) (A.entry q (w i))
      pub finite : (i q : ℕ) → q < A.n → is_open A (S i) q ≡ true → (d : ℕ) × (discharged i d q ≡ true)

  -- ---- cores: a set and ranks, at most B

  module _ (B : ℕ) where
    -- each core is the one before the next
    pub record Backed (w : ℕ → ℕ) (S : ℕ → Set) (r : ℕ → ℕ → ℕ) : Type 0 where
      pub exact : (i q : ℕ) → q < A.n → S i q ≡ satisfies A.n (S (suc i)) (A.entry q (w i))
      pub ranked : (i q : ℕ) → q < A.n → r i q ≡ rank_of A (S i) (λ p. level_of A B (S (suc i)) (r (suc i)) p (A.entry p (w i))) q
      pub bound : (i q : ℕ) → q < A.n → r i q ≤ B

    pub record Run (w : ℕ → ℕ) (S : ℕ → Set) (r : ℕ → ℕ → ℕ) (K k : ℕ → ℕ) : Type 0 where
      pub backed : Backed w S r
      pub trim-S : (i q : ℕ) → A.n ≤ q → S i q ≡ false
      pub trim-r : (i q : ℕ) → A.n ≤ q → r i q ≡ 0
      pub start-K : K 0 ≡ 0
      pub start-k : k 0 ≡ 0
      pub turn-K : (i : ℕ) → k i ≡ 0 → K (suc i) ≡ next_component_lem A (K i)
      pub turn-k : (i : ℕ) → k i ≡ 0 → k (suc i) ≡ largest A.n (open_of_lem A (S (suc i)) (K (suc i))) (r (suc i))
      pub stay-K : (i : ℕ) → (k i ≡ 0 → ⊥) → K (suc i) ≡ K i
      pub stay-k : (i : ℕ) → (k i ≡ 0 → ⊥) → k (suc i)
          ≡ largest A.n (λ q. open_of_lem A (S i) (K i) q && leb (r i q) (k i)) (λ p. level_of A B (S (suc i)) (r (suc i)) p (A.entry p (w i)))
      pub accepts : (i : ℕ) → (j : ℕ) × (i < j) × (k j ≡ 0)

  -- ---- the sets of a word with L places: solved from the lowest component up, in N rounds each

  module _ (nx w : ℕ → ℕ) where
    -- discharged within d rounds, given the states below
    unfoldable pub rounds : (ℕ → Set) → ℕ → ℕ → Set
    rounds X zero p q = false
    rounds X (suc d) p q = settled A (X (nx p)) (rounds X d (nx p)) q (A.entry q (w p))

    -- right for the states of height below h
    unfoldable pub solved : (ℕ → ℕ) → ℕ → ℕ → ℕ → Set
    unfolding rounds
    solved height N zero p q = false
    solved height N (suc h) p q =
        cond (eqb (height q) h) (cond (A.accepting q) (not (rounds (solved height N h) N p q)) (rounds (solved height N h) N p q)) (solved height N h p q)
