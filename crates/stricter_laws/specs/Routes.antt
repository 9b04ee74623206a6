-- Ways along the steps of a graph, letter by letter, and where they are written.
use Rattle.std.specs.Prelude.{◌≡◌, true, List, [], ◌∷◌, ◌++◌, ℕ, ◌+◌, length, take, drop}
use Rattle.sets.specs.Tests.{Set}
use Rattle.stricter_laws.specs.Forest.{Reaches}

module _ (S : ℕ → ℕ → ℕ → Type 0) where
  pub data Route : ℕ → List ℕ → ℕ → Type 0 where
    stay : {x : ℕ} → Route x [] x
    go : {x y z a : ℕ} {w : List ℕ} → S x a y → Route y w z → Route x (a ∷ w) z

  -- the letters of a way of n steps stand from place `at` on
  pub record RouteAt (x y at n : ℕ) (old new : List ℕ) : Type 0 where
    pub letters : List ℕ
    pub route : Route x letters y
    pub long : length letters ≡ n
    pub stands : new ≡ take at old ++ (letters ++ drop (at + n) old)

  -- u can be reached from the start, v from u, and u from v, along nodes that are in
  pub record Turning (first second : Set) (start : ℕ) (ms : List ℕ) (u v : ℕ) : Type 0 where
    pub there : Reaches S ms start u
    pub onto : Reaches S ms u v
    pub back : Reaches S ms v u
    pub accepts_u : first u ≡ true
    pub accepts_v : second v ≡ true
