-- Definition 7 of source 000, in its words: R1' and R2'. Its letters here: C is the component of q; Q₁ is the set of the later core
-- (its Q₁ at i+1) and t its ranks, so r' ≺ r is t r' < t r; S and ranks are the earlier core (its Q₁ at i, and its order).
-- The states Q are those below n.
use Rattle.std.specs.Prelude.{◌≡◌, ◌↔◌, Bool, true, false, ◌&&◌, ◌||◌, not, List, [], ◌∷◌, ℕ, ◌<◌, eqb, ltb}
use Rattle.sets.specs.Tests.{Set, some_below}
use Rattle.sets.specs.Masks.{bit}
use Rattle.theory.specs.Rule.{satisfies}
use Rattle.theory.specs.Automaton.{Automaton}

-- 000, section 2: the dual of an entry exchanges "ff and tt" and "∧ and ∨". An entry is a disjunction of clauses, each the conjunction
-- of its states, so X satisfies the dual entry if X has some state of every clause. No clause: always. An empty clause: never.
unfoldable pub satisfies_dual : ℕ → Set → List ℕ → Bool
satisfies_dual n X [] = true
satisfies_dual n X (c ∷ cs) = some_below n (λ p. bit c p && X p) && satisfies_dual n X cs

module _ (A : Automaton) (a : ℕ) (Q₁ : Set) (t : ℕ → ℕ) where
  -- p is in C, the component of q
  unfoldable pub in_c : ℕ → Set
  in_c q p = eqb (A.component p) (A.component q)

  -- ---- R1'

  -- {r' ∈ C ∩ Q₁ | r' ≺ r} ∪ (Q₁ \ C)
  unfoldable pub lower_r1 : ℕ → ℕ → Set
  lower_r1 q r p = ((in_c q p && Q₁ p) && ltb (t p) (t r)) || (Q₁ p && not (in_c q p))

  -- R1', right-hand side: "there exists r ∈ C ∩ Q₁ such that a: [this set] ⊨ δ(q, w[i]) and b: [this set] ⊭ δ(q', w[i]) hold"
  unfoldable pub witness_r1 : ℕ → ℕ → Bool
  witness_r1 q q' = some_below A.n (λ r. (in_c q r && Q₁ r)
      && (satisfies A.n (lower_r1 q r) (A.entry q a) && not (satisfies A.n (lower_r1 q r) (A.entry q' a))))

  -- ---- R2'

  -- {r' ∈ C \ Q₁ | r' ≺ r} ∪ (Q \ (Q₁ ∪ C))
  unfoldable pub lower_r2 : ℕ → ℕ → Set
  lower_r2 q r p = ((in_c q p && not (Q₁ p)) && ltb (t p) (t r)) || not (Q₁ p || in_c q p)

  -- R2', right-hand side: "there exists r ∈ C \ Q₁ such that a: [this set] ⊨ δ̂(q, w[i]) and b: [this set] ⊭ δ̂(q', w[i]) hold"
  unfoldable pub witness_r2 : ℕ → ℕ → Bool
  witness_r2 q q' = some_below A.n (λ r. (in_c q r && not (Q₁ r))
      && (satisfies_dual A.n (lower_r2 q r) (A.entry q a) && not (satisfies_dual A.n (lower_r2 q r) (A.entry q' a))))

  -- ---- both

  -- Definition 7, for one step: (S, ranks) and (Q₁, t) "satisfy the following rules"
  module _ (S : Set) (ranks : ℕ → ℕ) where
    -- R1': "∀ q, q' ∈ C ∩ Q₁ ⊆ R, we have that q ≺ q' iff" the right-hand side
    abbrev pub MeetsR1 : Type 0
    MeetsR1 = (q q' : ℕ) → q < A.n → q' < A.n → A.component q ≡ A.component q' → A.accepting q ≡ false → S q ≡ true → S q' ≡ true
        → (ranks q < ranks q') ↔ (witness_r1 q q' ≡ true)

    -- R2': "∀ q, q' ∈ C \ Q₁ ⊆ A, we have q ≺ q' iff" the right-hand side
    abbrev pub MeetsR2 : Type 0
    MeetsR2 = (q q' : ℕ) → q < A.n → q' < A.n → A.component q ≡ A.component q' → A.accepting q ≡ true → S q ≡ false → S q' ≡ false
        → (ranks q < ranks q') ↔ (witness_r2 q q' ≡ true)

    pub record Consistent : Type 0 where
      pub R1' : MeetsR1
      pub R2' : MeetsR2

module _ (A : Automaton) (a : ℕ) (Q₁ : Set) where
  -- L2 and L3 of 000, section 3.2, the "local consistency" of Definition 11
  pub record LocallyConsistent (S : Set) : Type 0 where
    -- "for every state q ∈ Q₁ [at i], Q₁ [at i+1] ⊨ δ(q, w[i])"
    pub L2 : (q : ℕ) → q < A.n → S q ≡ true → satisfies A.n Q₁ (A.entry q a) ≡ true
    -- "for every state q ∈ Q \ Q₁ [at i], Q \ Q₁ [at i+1] ⊨ δ̂(q, w[i])"
    pub L3 : (q : ℕ) → q < A.n → S q ≡ false → satisfies_dual A.n (λ p. not (Q₁ p)) (A.entry q a) ≡ true
