-- Walks along nodes that are in. A mark is 0 for a node that is out.
use Rattle.std.specs.Prelude.{◌≡◌, true, List, ℕ, ◌<◌, get_or}
use Rattle.sets.specs.Tests.{Set}

module _ (E : ℕ → ℕ → Type 0) where
  -- from x, in one step or more, a walk along nodes that are in leads to one that passes the test
  pub data Onto (accepts : Set) (ms : List ℕ) : ℕ → Type 0 where
    arrives : {x : ℕ} (y : ℕ) → E x y → 0 < get_or ms y 0 → accepts y ≡ true → Onto accepts ms x
    passes : {x : ℕ} (y : ℕ) → E x y → 0 < get_or ms y 0 → Onto accepts ms y → Onto accepts ms x

  -- from each node that is in, nodes that are in and pass each test can be reached
  pub record BothSound (p q : Set) (ms : List ℕ) : Type 0 where
    pub onto_p : (x : ℕ) → 0 < get_or ms x 0 → Onto p ms x
    pub onto_q : (x : ℕ) → 0 < get_or ms x 0 → Onto q ms x
