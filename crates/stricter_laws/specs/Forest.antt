-- A search through a graph whose steps have letters: a byte for each node says how it was met.
-- 0: out. 1: in, and not met. 3 + 4 * letter: met by a step from the origin.
-- 64 + 4 * letter + kind: met by a step from a met node of the kind.
-- 128 more: the steps of the node were tried.
use Rattle.std.specs.Prelude.{◌≡◌, Bool, true, false, List, [], ◌∷◌, ◌⊎◌, ℕ, suc, ◌+◌, ◌*◌, ◌%◌, ◌≤◌, ◌<◌, ltb, length, get_or}
use Rattle.sets.specs.Lists.{sum}
use Rattle.sets.specs.Tests.{one}
use Rattle.stricter_laws.specs.Tests.{accepts_in}

-- on which sides a pair is accepting
unfoldable pub kind_in : List ℕ → List ℕ → ℕ → ℕ
kind_in ca cb x = 2 * one (accepts_in ca cb false x) + one (accepts_in ca cb true x)

-- the number of nodes met
unfoldable pub met : List ℕ → ℕ
met [] = 0
met (v ∷ vs) = one (ltb 1 v) + met vs

-- nodes of D that were in and not met got the byte
pub record Marked (D : ℕ → Type 0) (byte : ℕ) (old new : List ℕ) : Type 0 where
  pub long : length new ≡ length old
  pub each : (y : ℕ) → (get_or new y 0 ≡ get_or old y 0) ⊎ (D y × (get_or old y 0 ≡ 1) × (get_or new y 0 ≡ byte))
  pub closed : (y : ℕ) → D y → 0 < get_or old y 0 → 1 < get_or new y 0

-- nodes that a step of S leads to over a letter got a byte by it, if they were in and not met; those of D were tried
pub record Tried (S : ℕ → ℕ → Type 0) (D : ℕ → Type 0) (base : ℕ) (old new : List ℕ) : Type 0 where
  pub long : length new ≡ length old
  pub each : (y : ℕ) → (get_or new y 0 ≡ get_or old y 0) ⊎ ((a : ℕ) × S a y × (get_or old y 0 ≡ 1) × (get_or new y 0 ≡ base + 4 * a))
  pub closed : (y : ℕ) → D y → 0 < get_or old y 0 → 1 < get_or new y 0

-- what is in stays in, nothing is met
pub record Cleared (old new : List ℕ) : Type 0 where
  pub long : length new ≡ length old
  pub each : (x : ℕ) → ((get_or old x 0 ≡ 0) × (get_or new x 0 ≡ 0)) ⊎ ((0 < get_or old x 0) × (get_or new x 0 ≡ 1))

-- the same nodes are in
pub record SameIn (old new : List ℕ) : Type 0 where
  pub long : length new ≡ length old
  pub within : (x : ℕ) → 0 < get_or new x 0 → 0 < get_or old x 0
  pub kept : (x : ℕ) → 0 < get_or old x 0 → 0 < get_or new x 0

-- node x was met, and its steps are still to be tried
pub record Waits (ms : List ℕ) (x : ℕ) : Type 0 where
  pub big : 1 < get_or ms x 0
  pub small : get_or ms x 0 < 128

-- no node from `from` up to `to` waits for it
abbrev pub NoneWaits : List ℕ → ℕ → ℕ → Type 0
NoneWaits ms from to = (x : ℕ) → from ≤ x → x < to → 1 < get_or ms x 0 → 128 ≤ get_or ms x 0

module _ (S : ℕ → ℕ → ℕ → Type 0) where
  -- from o, in one step or more, along nodes that are in
  pub data Reaches (ms : List ℕ) (o : ℕ) : ℕ → Type 0 where
    once : {y : ℕ} (a : ℕ) → S o a y → 0 < get_or ms y 0 → Reaches ms o y
    on : {y : ℕ} (x a : ℕ) → Reaches ms o x → S x a y → 0 < get_or ms y 0 → Reaches ms o y

  -- steps from met nodes to nodes that are in lead to met ones
  abbrev pub Closed : List ℕ → Type 0
  Closed ms = (x a y : ℕ) → 1 < get_or ms x 0 → S x a y → 0 < get_or ms y 0 → 1 < get_or ms y 0

  module _ (kind : ℕ → ℕ) where
    module _ (o : ℕ) where
      -- the bytes tell a way back from y to the origin, of d steps
      pub data Back (ms : List ℕ) : ℕ → ℕ → Type 0 where
        seed : {y d : ℕ} (a : ℕ) → S o a y → get_or ms y 0 % 128 ≡ 3 + 4 * a → d ≡ 1 → Back ms y d
        child : {y d : ℕ} (x a e : ℕ) → Back ms x e → S x a y → get_or ms y 0 % 128 ≡ 64 + 4 * a + kind x → d ≡ suc e → Back ms y d

      -- the origin itself, or a node met
      abbrev pub Trail : List ℕ → ℕ → ℕ → Type 0
      Trail ms x d = ((d ≡ 0) × (x ≡ o)) ⊎ Back ms x d

      -- where the step to y comes from, by the byte v that it left
      pub record ParentIs (y v r : ℕ) : Type 0 where
        pub near : v < 64 → r ≡ o
        pub far : (x a : ℕ) → S x a y → v ≡ 64 + 4 * a + kind x → r ≡ x

      pub record Forest (ms : List ℕ) : Type 0 where
        pub back : (x : ℕ) → 1 < get_or ms x 0 → (d : ℕ) × (d ≤ met ms) × Back ms x d
        pub done : (x : ℕ) → 128 ≤ get_or ms x 0 → (a y : ℕ) → S x a y → 0 < get_or ms y 0 → 1 < get_or ms y 0

      -- all nodes are met that can be reached from the origin
      pub record Explored (old new : List ℕ) : Type 0 where
        pub same : SameIn old new
        pub back : (x : ℕ) → 1 < get_or new x 0 → (d : ℕ) × (d ≤ length new) × Back new x d
        pub first : (a y : ℕ) → S o a y → 0 < get_or new y 0 → 1 < get_or new y 0
        pub closed : Closed new

    -- the steps of the nodes from `from` up to `to` that wait for it were tried; whether there were any
    pub record Passed (from to : ℕ) (old new : List ℕ) (changed : Bool) : Type 0 where
      pub long : length new ≡ length old
      pub more : (x : ℕ) → get_or old x 0 ≤ get_or new x 0
      pub within : (x : ℕ) → 0 < get_or new x 0 → 0 < get_or old x 0
      pub forest : (o : ℕ) → Forest o old → Forest o new
      pub still : changed ≡ false → (new ≡ old) × NoneWaits old from to
      pub grown : changed ≡ true → sum old < sum new

    -- until no node waits
    pub record Exhausted (old new : List ℕ) : Type 0 where
      pub long : length new ≡ length old
      pub more : (x : ℕ) → get_or old x 0 ≤ get_or new x 0
      pub within : (x : ℕ) → 0 < get_or new x 0 → 0 < get_or old x 0
      pub forest : (o : ℕ) → Forest o old → Forest o new
      pub all : (x : ℕ) → 1 < get_or new x 0 → 128 ≤ get_or new x 0
