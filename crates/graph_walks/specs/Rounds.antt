-- What a round leaves of the marks.
use Rattle.std.specs.Prelude.{◌≡◌, Bool, true, false, List, ◌⊎◌, ℕ, ◌+◌, ◌<◌, ◌≤◌, length, get_or}
use Rattle.sets.specs.Lists.{sum}
use Rattle.graph_walks.specs.Walks.{Walk, Toward, Pruned}
use Rattle.graph_walks.specs.Marks.{settled, goes_out_lem}

-- the nodes from `from` up to `to` are settled; whether an accepting one goes out
pub record Settling (from to : ℕ) (old new : List ℕ) (changed : Bool) : Type 0 where
  pub long : length new ≡ length old
  pub inside : (x : ℕ) → from ≤ x → x < to → get_or new x 0 ≡ settled (get_or old x 0)
  pub outside : (x : ℕ) → (x < from) ⊎ (to ≤ x) → get_or new x 0 ≡ get_or old x 0
  pub some : changed ≡ true → (x : ℕ) × (from ≤ x) × (x < to) × (goes_out_lem (get_or old x 0) ≡ true)
  pub none : changed ≡ false → (x : ℕ) → from ≤ x → x < to → goes_out_lem (get_or old x 0) ≡ false

module _ (E : ℕ → ℕ → Type 0) where
  -- nodes are marked from which a walk leads to an accepting one
  pub record Marking (old new : List ℕ) : Type 0 where
    pub long : length new ≡ length old
    pub each : (x : ℕ) → (get_or new x 0 ≡ get_or old x 0) ⊎ ((get_or new x 0 ≡ get_or old x 0 + 2) × (0 < get_or old x 0) × Toward E old x)

  -- and all of them are
  pub record Stable (old new : List ℕ) : Type 0 where
    pub marking : Marking old new
    pub closed : (x y : ℕ) → E x y → 1 < get_or new y 0 → 0 < get_or old x 0 → 2 < get_or new x 0

  -- a round of pruning; whether a node went out
  pub record PruneRound (old new : List ℕ) (changed : Bool) : Type 0 where
    pub pruned : Pruned E old new
    pub even : (x : ℕ) → (get_or new x 0 ≡ 0) ⊎ (get_or new x 0 ≡ 2)
    pub less : changed ≡ true → sum new < sum old

  -- a round of solving; whether an accepting node went out
  pub record SolveRound (old new : List ℕ) (changed : Bool) : Type 0 where
    pub long : length new ≡ length old
    pub each : (x : ℕ) → (get_or new x 0 ≡ 0) ⊎ (get_or new x 0 ≡ get_or old x 0)
    pub sound : changed ≡ false → (x : ℕ) → 0 < get_or new x 0 → Toward E new x
    pub keeps : (z : ℕ → ℕ) → Walk E z → ((i : ℕ) → 0 < get_or old (z i) 0) → ((i : ℕ) → (j : ℕ) × (i < j) × (1 < get_or old (z j) 0)) → (i : ℕ) → 0 < get_or new (z i) 0
    pub less : changed ≡ true → sum new < sum old
