-- Cores, levels and the earlier core.
use Rattle.std.specs.Prelude.{◌≡◌, ◌↔◌, Bool, true, false, ◌&&◌, not, cond, List, ℕ, suc, ◌≤◌, ◌<◌, eqb, leb}
use Rattle.sets.specs.Tests.{Set}
use Rattle.theory.specs.Rule.{satisfies}
use Rattle.theory.specs.Automaton.{Automaton}

-- j is the least number where the test holds
pub record Least (f : Set) (j : ℕ) : Type 0 where
  pub holds : f j ≡ true
  pub least : (i : ℕ) → f i ≡ true → j ≤ i

module _ (A : Automaton) where
  -- 01: "The open states of a component are its states in S if it is rejecting, its states outside S if it is accepting."
  unfoldable pub is_open : Set → ℕ → Bool
  is_open S q = cond (A.accepting q) (not (S q)) (S q)

  -- 01: "Open states have ranks 1 to m with no gap, ties allowed, for each component separately; other states have rank 0."
  -- S is the set, r the ranks.
  pub record Core (S : Set) (r : ℕ → ℕ) : Type 0 where
    pub closed : (q : ℕ) → q < A.n → is_open S q ≡ false → r q ≡ 0
    pub ranked : (q : ℕ) → q < A.n → is_open S q ≡ true → 1 ≤ r q
    pub gapless : (q j : ℕ) → q < A.n → is_open S q ≡ true → 1 ≤ j → j ≤ r q
        → (p : ℕ) × (p < A.n) × (A.component p ≡ A.component q) × (is_open S p ≡ true) × (r p ≡ j)

  -- D at the states of q's component, X at the others
  unfoldable pub mix : ℕ → Set → Set → Set
  mix q X D p = cond (eqb (A.component p) (A.component q)) (D p) (X p)

  -- 01, "K rejecting": T's states outside K, with the states D of K, satisfy q's entry e
  unfoldable pub rejecting_settled : Set → Set → ℕ → List ℕ → Bool
  rejecting_settled T D q e = satisfies A.n (mix q T D) e

  -- 01, "K accepting": "take the states outside both K and T's set, with" the states D of K; "the states left over do not satisfy q's entry" e
  unfoldable pub accepting_settled : Set → Set → ℕ → List ℕ → Bool
  accepting_settled T D q e = not (satisfies A.n (λ p. not (mix q (λ t. not (T t)) D p)) e)

  -- both: K is q's component
  unfoldable pub settled : Set → Set → ℕ → List ℕ → Bool
  settled T D q e = cond (A.accepting q) (accepting_settled T D q e) (rejecting_settled T D q e)

  -- the condition that the level is the least j of: D are "the open states of K in T of rank at most j"; T and t are the later core, e is q's entry
  unfoldable pub settled_up_to : Set → (ℕ → ℕ) → ℕ → List ℕ → ℕ → Bool
  settled_up_to T t q e j = settled T (λ p. is_open T p && leb (t p) j) q e

  -- 01: "its level is the least j, from 0, such that the following holds": j is the level of the open state q over a letter where its entry is e
  abbrev pub Level : Set → (ℕ → ℕ) → ℕ → List ℕ → ℕ → Type 0
  Level T t q e j = Least (settled_up_to T t q e) j

  -- 01: "A core T and a letter fix one core before it." (S, r) is the core before (T, t) at letter a, and l gives the levels of its open states.
  pub record Earlier (a : ℕ) (S : Set) (r : ℕ → ℕ) (T : Set) (t : ℕ → ℕ) (l : ℕ → ℕ) : Type 0 where
    -- "S holds q exactly if T's set satisfies q's entry."
    pub exact : (q : ℕ) → q < A.n → S q ≡ satisfies A.n T (A.entry q a)
    -- l q is the level of q
    pub level : (q : ℕ) → q < A.n → is_open S q ≡ true → Level T t q (A.entry q a) (l q)
    -- "Ranks of the earlier core order open states of one component by level"
    pub ordered : (q p : ℕ) → q < A.n → p < A.n → A.component q ≡ A.component p → is_open S q ≡ true → is_open S p ≡ true → (r q ≤ r p) ↔ (l q ≤ l p)
    -- "closed up to 1, 2, and so on"
    pub core : Core S r

  -- ---- classes

  -- the open states of component K
  unfoldable pub open_of_lem : Set → ℕ → Set
  open_of_lem S K q = eqb (A.component q) K && is_open S q

  -- 01: "the next component (after the last, component 0)"
  unfoldable pub next_component_lem : ℕ → ℕ
  next_component_lem K = cond (eqb (suc K) A.components) 0 (suc K)
