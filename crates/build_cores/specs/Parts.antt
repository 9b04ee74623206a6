-- The components of an automaton as masks, and the core that a vector of ranks gives.
use Rattle.std.specs.Prelude.{◌≡◌, ◌&&◌, cond, List, ℕ, ◌≤◌, ◌<◌, eqb, ltb, get_or}
use Rattle.sets.specs.Tests.{Set, count}
use Rattle.sets.specs.Masks.{mask, exclusive}
use Rattle.sets.specs.Digits.{num}
use Rattle.theory.specs.Automaton.{Automaton}
use Rattle.build_cores.specs.Vectors.{rank_at}

-- parts holds the mask of each component
pub record Parts (A : Automaton) (parts : List ℕ) : Type 0 where
  pub few_states : A.n ≤ 8
  pub few_components : A.components ≤ 8
  pub known : (q : ℕ) → q < A.n → A.component q < A.components
  pub part : (c : ℕ) → c < A.components → get_or parts c 0 ≡ mask A.n (λ q. eqb (A.component q) c)

module _ (A : Automaton) where
  -- the set of a core follows from its ranks: the rejecting states with a rank, the accepting states without one
  unfoldable pub set_of : ℕ → Set
  set_of ranks q = ltb q A.n && exclusive (A.accepting q) (ltb 0 (rank_at ranks q))

  -- the vector of the ranks r
  unfoldable pub vector_of : (ℕ → ℕ) → ℕ
  vector_of r = num 16 8 (λ q. cond (ltb q A.n) (r q) 0)

  -- the size of a state's component
  unfoldable pub size_at : ℕ → ℕ
  size_at q = count A.n (λ p. eqb (A.component p) (A.component q))
