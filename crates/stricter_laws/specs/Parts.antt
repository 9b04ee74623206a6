-- The parts of which rounds are made.
use Rattle.std.specs.Prelude.{◌≡◌, Bool, true, false, ◌⊎◌, ℕ, ◌/◌, ◌≤◌, ◌<◌, length, get_or}
use mathlib.Core.List.{List, Memᴰ}
use Rattle.sets.specs.Lists.{sum}
use Rattle.graph_walks.specs.Walks.{Walk}
use Rattle.stricter_spec.specs.Tags.{row_of_lem}
use Rattle.stricter_spec.specs.Steps.{CoresFit, OnlyCores}
use Rattle.stricter_spec.specs.Rounds.{Toward, Marking, Narrowed}

-- two tagged tables and a mark for each pair, and no transition of B comes from elsewhere
pub record Ready (na nb : ℕ) (left right marks : List ℕ) : Type 0 where
  pub fits : CoresFit na nb left right marks
  pub rows : (u : ℕ) → Memᴰ u right → row_of_lem u < nb

-- a round is on: it began with marks of at most 1, pairs of cores only
pub record Begun (E F : ℕ → ℕ → Type 0) (codes : List ℕ) (nb : ℕ) (ms : List ℕ) : Type 0 where
  pub base : List ℕ
  pub low : (x : ℕ) → get_or base x 0 ≤ 1
  pub cores : OnlyCores codes nb base
  pub marking : Marking E F base ms

-- the nodes from `from` up to `to` are settled: 2 becomes 1, less becomes 0; whether there was a 1
pub record Settled (from to : ℕ) (old new : List ℕ) (changed : Bool) : Type 0 where
  pub long : length new ≡ length old
  pub inside : (x : ℕ) → from ≤ x → x < to → get_or new x 0 ≡ get_or old x 0 / 2
  pub outside : (x : ℕ) → (x < from) ⊎ (to ≤ x) → get_or new x 0 ≡ get_or old x 0
  pub some : changed ≡ true → (x : ℕ) × (from ≤ x) × (x < to) × (get_or old x 0 ≡ 1)
  pub none : changed ≡ false → (x : ℕ) → from ≤ x → x < to → get_or old x 0 ≡ 1 → ⊥

-- a round for each of the first components of a side; whether a node went out
pub record Side (E : ℕ → ℕ → Type 0) (F : Bool → ℕ → ℕ → ℕ → Type 0) (components : Bool → ℕ) (second : Bool) (count : ℕ)
    (old new : List ℕ) (changed : Bool) : Type 0 where
  pub narrowed : Narrowed E F components old new
  pub same : changed ≡ false → (x : ℕ) → 0 < get_or old x 0 → 0 < get_or new x 0
  pub sound : changed ≡ false → (K : ℕ) → K < count → (x : ℕ) → 0 < get_or new x 0 → Toward E (F second K) new x
  pub less : changed ≡ true → sum new < sum old

-- nodes are taken out, but none on an endless walk along nodes that are in
pub record Thinned (E : ℕ → ℕ → Type 0) (old new : List ℕ) : Type 0 where
  pub long : length new ≡ length old
  pub each : (x : ℕ) → (get_or new x 0 ≡ 0) ⊎ (get_or new x 0 ≡ get_or old x 0)
  pub keeps : (z : ℕ → ℕ) → Walk E z → ((i : ℕ) → 0 < get_or old (z i) 0) → (i : ℕ) → 0 < get_or new (z i) 0
