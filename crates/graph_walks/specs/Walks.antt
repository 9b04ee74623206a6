-- Endless walks in a graph whose nodes are marked: a mark is 0 for a node that is out, 1 for one that is in, 2 for one that is in and accepting.
use Rattle.std.specs.Prelude.{◌≡◌, List, ◌⊎◌, ℕ, suc, ◌<◌, length, get_or}

module _ (E : ℕ → ℕ → Type 0) where
  -- an endless walk along the edges
  abbrev pub Walk : (ℕ → ℕ) → Type 0
  Walk z = (i : ℕ) → E (z i) (z (suc i))

  -- from x, in one step or more, a walk along nodes that are in leads to an accepting one
  pub data Toward (marks : List ℕ) : ℕ → Type 0 where
    arrives : {x : ℕ} (y : ℕ) → E x y → 1 < get_or marks y 0 → Toward marks x
    passes : {x : ℕ} (y : ℕ) → E x y → 0 < get_or marks y 0 → Toward marks y → Toward marks x

  -- nodes are taken out, but none on an endless walk along nodes that are in
  pub record Pruned (old new : List ℕ) : Type 0 where
    pub long : length new ≡ length old
    pub each : (x : ℕ) → (get_or new x 0 ≡ 0) ⊎ (get_or new x 0 ≡ get_or old x 0)
    pub keeps : (z : ℕ → ℕ) → Walk z → ((i : ℕ) → 0 < get_or old (z i) 0) → (i : ℕ) → 0 < get_or new (z i) 0

  -- nodes are taken out, but none on an endless walk along nodes that are in and again and again accepting; from each that is left a walk along such nodes leads to an accepting one
  pub record Solved (old new : List ℕ) : Type 0 where
    pub long : length new ≡ length old
    pub each : (x : ℕ) → (get_or new x 0 ≡ 0) ⊎ (get_or new x 0 ≡ get_or old x 0)
    pub sound : (x : ℕ) → 0 < get_or new x 0 → Toward new x
    pub keeps : (z : ℕ → ℕ) → Walk z → ((i : ℕ) → 0 < get_or old (z i) 0) → ((i : ℕ) → (j : ℕ) × (i < j) × (1 < get_or old (z j) 0)) → (i : ℕ) → 0 < get_or new (z i) 0
