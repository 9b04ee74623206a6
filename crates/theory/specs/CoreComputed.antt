-- Levels, ranks and cores, computed: equal to those of Core by level-least (theory_laws/proofs/Levels), rank-unique and core-iff (Cores).
use Rattle.std.specs.Prelude.{Bool, ◌&&◌, cond, List, ℕ, suc, eqb, ltb}
use Rattle.sets.specs.Tests.{Set, every, some_below, count, first}
use Rattle.theory.specs.Automaton.{Automaton}
use Rattle.theory.specs.Core.{is_open, settled_up_to}

module _ (A : Automaton) where
  -- the level, for ranks of at most B
  unfoldable pub level_of : ℕ → Set → (ℕ → ℕ) → ℕ → List ℕ → ℕ
  level_of B T t q e = first B (settled_up_to A T t q e) 0

  -- some open state of component K has the level j; l gives the levels
  unfoldable pub taken : Set → (ℕ → ℕ) → ℕ → ℕ → Bool
  taken S l K j = some_below A.n (λ p. eqb (A.component p) K && (is_open A S p && eqb (l p) j))

  -- levels closed up to 1, 2, ..
  unfoldable pub rank_of : Set → (ℕ → ℕ) → ℕ → ℕ
  rank_of S l q = cond (is_open A S q) (count (suc (l q)) (taken S l (A.component q))) 0

  -- whether S and r are a core
  unfoldable pub is_core_lem : Set → (ℕ → ℕ) → Bool
  is_core_lem S r = every A.n (λ q. cond (is_open A S q)
      (ltb 0 (r q) && every (r q) (λ j. some_below A.n (λ p. eqb (A.component p) (A.component q) && (is_open A S p && eqb (r p) (suc j)))))
      (eqb (r q) 0))
