-- 01's earlier core on the rejecting components alone, and on the accepting ones alone.
use Rattle.std.specs.Prelude.{◌≡◌, ◌↔◌, true, false, ◌&&◌, not, cond, ℕ, ◌≤◌, ◌<◌, leb}
use Rattle.sets.specs.Tests.{Set}
use Rattle.theory.specs.Rule.{satisfies}
use Rattle.theory.specs.Automaton.{Automaton}
use Rattle.theory.specs.Core.{Least, rejecting_settled, accepting_settled}

module _ (A : Automaton) where
  -- (S, r) is the core before (T, t) at letter a, as far as its rejecting components go; l gives the levels of their open states.
  -- 01: "The open states of a component are its states in S if it is rejecting"
  pub record EarlierRejecting (a : ℕ) (S : Set) (r : ℕ → ℕ) (T : Set) (t : ℕ → ℕ) (l : ℕ → ℕ) : Type 0 where
    -- "S holds q exactly if T's set satisfies q's entry."
    pub exact : (q : ℕ) → q < A.n → A.accepting q ≡ false → S q ≡ satisfies A.n T (A.entry q a)
    -- the level is the least j such that "T's states outside K, with the open states of K in T of rank at most j, satisfy q's entry"
    pub level : (q : ℕ) → q < A.n → A.accepting q ≡ false → S q ≡ true
        → Least (λ j. rejecting_settled A T (λ p. T p && leb (t p) j) q (A.entry q a)) (l q)
    -- "Ranks of the earlier core order open states of one component by level"
    pub ordered : (q p : ℕ) → q < A.n → p < A.n → A.component q ≡ A.component p → A.accepting q ≡ false → S q ≡ true → S p ≡ true
        → (r q ≤ r p) ↔ (l q ≤ l p)
    -- "Open states have ranks 1 to m with no gap, ties allowed, for each component separately; other states have rank 0."
    pub closed : (q : ℕ) → q < A.n → A.accepting q ≡ false → S q ≡ false → r q ≡ 0
    pub ranked : (q : ℕ) → q < A.n → A.accepting q ≡ false → S q ≡ true → 1 ≤ r q
    pub gapless : (q j : ℕ) → q < A.n → A.accepting q ≡ false → S q ≡ true → 1 ≤ j → j ≤ r q
        → (p : ℕ) × (p < A.n) × (A.component p ≡ A.component q) × (S p ≡ true) × (r p ≡ j)

  -- (S, r) is the core before (T, t) at letter a, as far as its accepting components go, with the levels l. 01: open states are "its states outside S if it is accepting"
  pub record EarlierAccepting (a : ℕ) (S : Set) (r : ℕ → ℕ) (T : Set) (t : ℕ → ℕ) (l : ℕ → ℕ) : Type 0 where
    pub exact : (q : ℕ) → q < A.n → A.accepting q ≡ true → S q ≡ satisfies A.n T (A.entry q a)
    -- the least j such that: "take the states outside both K and T's set, with those open states of rank at most j; the states left over
    -- do not satisfy q's entry"
    pub level : (q : ℕ) → q < A.n → A.accepting q ≡ true → S q ≡ false
        → Least (λ j. accepting_settled A T (λ p. not (T p) && leb (t p) j) q (A.entry q a)) (l q)
    pub ordered : (q p : ℕ) → q < A.n → p < A.n → A.component q ≡ A.component p → A.accepting q ≡ true → S q ≡ false → S p ≡ false
        → (r q ≤ r p) ↔ (l q ≤ l p)
    pub closed : (q : ℕ) → q < A.n → A.accepting q ≡ true → S q ≡ true → r q ≡ 0
    pub ranked : (q : ℕ) → q < A.n → A.accepting q ≡ true → S q ≡ false → 1 ≤ r q
    pub gapless : (q j : ℕ) → q < A.n → A.accepting q ≡ true → S q ≡ false → 1 ≤ j → j ≤ r q
        → (p : ℕ) × (p < A.n) × (A.component p ≡ A.component q) × (S p ≡ false) × (r p ≡ j)

  -- both halves in one: at a rejecting state the value of the first, at an accepting state that of the second
  unfoldable pub both_halves : (ℕ → ℕ) → (ℕ → ℕ) → ℕ → ℕ
  both_halves rejecting accepting q = cond (A.accepting q) (accepting q) (rejecting q)
