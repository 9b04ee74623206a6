-- Rounds over a graph some of whose edges spare a component: nodes go out from which no walk along nodes that are in takes such an edge.
-- Marks: 0 for a node that is out, 1 for one that is in, 2 while a round is on for one from which a walk to such an edge is known.
use Rattle.std.specs.Prelude.{◌≡◌, Bool, true, false, List, ◌⊎◌, ℕ, suc, ◌≤◌, ◌<◌, length, get_or}
use Rattle.sets.specs.Lists.{sum}
use Rattle.graph_walks.specs.Walks.{Walk}

-- E are the edges, F those that spare
module _ (E F : ℕ → ℕ → Type 0) where
  -- from x a walk along nodes that are in takes an edge that spares
  pub data Toward (ms : List ℕ) : ℕ → Type 0 where
    spared : {x : ℕ} (y : ℕ) → F x y → 0 < get_or ms y 0 → Toward ms x
    passes : {x : ℕ} (y : ℕ) → E x y → 0 < get_or ms y 0 → Toward ms y → Toward ms x

  -- no edge that spares leads from x to a node that is in, and none at all to one whose mark is at least so much
  pub record Stuck (least : ℕ) (ms : List ℕ) (x : ℕ) : Type 0 where
    pub spared : (y : ℕ) → F x y → get_or ms y 0 < 1
    pub passes : (y : ℕ) → E x y → get_or ms y 0 < least

  -- whether one does
  pub record Leading (least : ℕ) (ms : List ℕ) (x : ℕ) (r : Bool) : Type 0 where
    pub yes : r ≡ true → ((y : ℕ) × F x y × (1 ≤ get_or ms y 0)) ⊎ ((y : ℕ) × E x y × (least ≤ get_or ms y 0))
    pub no : r ≡ false → Stuck least ms x

  -- nodes of old that are in are marked, each with a walk
  pub record Marking (old new : List ℕ) : Type 0 where
    pub long : length new ≡ length old
    pub each : (x : ℕ) → (get_or new x 0 ≡ get_or old x 0) ⊎ ((get_or old x 0 ≡ 1) × (get_or new x 0 ≡ 2) × Toward old x)

  -- the nodes from `from` up to `to` were tried; whether one was marked
  pub record Tried (from to : ℕ) (old new : List ℕ) (changed : Bool) : Type 0 where
    pub long : length new ≡ length old
    pub same : changed ≡ false → new ≡ old
    pub stuck : changed ≡ false → (x : ℕ) → from ≤ x → x < to → get_or old x 0 ≡ 1 → Stuck 2 old x
    pub grown : changed ≡ true → sum old < sum new
    pub marking : (base : List ℕ) → ((x : ℕ) → get_or base x 0 ≤ 1) → Marking base old → Marking base new

  -- all nodes are marked that have a walk
  pub record Swept (old new : List ℕ) : Type 0 where
    pub marking : Marking old new
    pub stuck : (x : ℕ) → get_or new x 0 ≡ 1 → Stuck 2 new x

  -- a round; whether a node went out
  pub record Round (old new : List ℕ) (changed : Bool) : Type 0 where
    pub long : length new ≡ length old
    pub low : (x : ℕ) → get_or new x 0 ≤ 1
    pub sub : (x : ℕ) → 0 < get_or new x 0 → 0 < get_or old x 0
    pub same : changed ≡ false → (x : ℕ) → 0 < get_or old x 0 → 0 < get_or new x 0
    pub sound : changed ≡ false → (x : ℕ) → 0 < get_or new x 0 → Toward new x
    pub keeps : (z : ℕ → ℕ) → Walk E z → ((i : ℕ) → 0 < get_or old (z i) 0) → ((i : ℕ) → (j : ℕ) × (i ≤ j) × F (z j) (z (suc j)))
        → (i : ℕ) → 0 < get_or new (z i) 0
    pub less : changed ≡ true → sum new < sum old

-- for each component of either table the edges that spare it: F false of the first, F true of the second
module _ (E : ℕ → ℕ → Type 0) (F : Bool → ℕ → ℕ → ℕ → Type 0) (components : Bool → ℕ) where
  -- each is spared again and again along z
  abbrev pub Again : (ℕ → ℕ) → Type 0
  Again z = (second : Bool) (K : ℕ) → K < components second → (i : ℕ) → (j : ℕ) × (i ≤ j) × F second K (z j) (z (suc j))

  -- nodes are taken out, but none on an endless walk along nodes that are in that spares each again and again
  pub record Narrowed (old new : List ℕ) : Type 0 where
    pub long : length new ≡ length old
    pub low : (x : ℕ) → get_or new x 0 ≤ 1
    pub sub : (x : ℕ) → 0 < get_or new x 0 → 0 < get_or old x 0
    pub keeps : (z : ℕ → ℕ) → Walk E z → ((i : ℕ) → 0 < get_or old (z i) 0) → Again z → (i : ℕ) → 0 < get_or new (z i) 0

  -- from each node that is in, for each component, a walk along such nodes spares it
  abbrev pub AllSound : List ℕ → Type 0
  AllSound ms = (second : Bool) (K : ℕ) → K < components second → (x : ℕ) → 0 < get_or ms x 0 → Toward E (F second K) ms x

  -- a round for each component; whether a node went out
  pub record Pass (old new : List ℕ) (changed : Bool) : Type 0 where
    pub narrowed : Narrowed old new
    pub sound : changed ≡ false → AllSound new
    pub less : changed ≡ true → sum new < sum old
