-- Macrostates, their steps, and the reachable ones.
use Rattle.std.specs.Prelude.{◌≡◌, Bool, true, ◌&&◌, ℕ, ◌<◌, eqb, leb}
use Rattle.sets.specs.Tests.{Set, largest}
use Rattle.sets.specs.Masks.{bit}
use Rattle.theory.specs.Rule.{Rule}
use Rattle.theory.specs.Automaton.{Automaton}
use Rattle.theory.specs.Core.{Core, Earlier, open_of_lem, next_component_lem}
use Rattle.theory.specs.Code.{set_in, rank_in, component_in, classes_in, well_coded}

-- a macrostate where a run may begin: the start condition holds, "K is 0 and k is 0"
unfoldable pub begun : Set → ℕ → Bool
begun start c = start c && (eqb (component_in c) 0 && eqb (classes_in c) 0)

-- the start condition of 01: "S holds the initial state"
abbrev pub holds_initial : Rule → Set
holds_initial r c = bit c r.initial

-- 01: a macrostate "is initial if S holds the initial state, K is 0 and k is 0"
abbrev pub is_initial_lem : Rule → Set
is_initial_lem r = begun (holds_initial r)

-- 01: "It is accepting if k is 0."
unfoldable pub is_accepting_lem : ℕ → Bool
is_accepting_lem c = eqb (classes_in c) 0

module _ (A : Automaton) where
  -- 01: "A macrostate is a core, a component number K, and k": c is the code of one.
  -- k is not bounded here: a step only makes a k of at most the number of classes of K.
  pub record Macrostate (c : ℕ) : Type 0 where
    pub coded : well_coded A c ≡ true
    pub core : Core A (set_in A c) (rank_in A c)
    pub component : component_in c < A.components

  -- 01: "It goes over a letter to each core T whose earlier core is its own": the macrostate c goes over the letter a to d
  pub record Goes (c a d : ℕ) : Type 0 where
    -- the levels of c's open states
    pub level : ℕ → ℕ
    pub earlier : Earlier A a (set_in A c) (rank_in A c) (set_in A d) (rank_in A d) level
    -- "if k is 0, K becomes the next component .. and k all its classes in T": ranks have no gap, so there are as many classes as the largest rank says
    pub next : classes_in c ≡ 0 → component_in d ≡ next_component_lem A (component_in c)
    pub all : classes_in c ≡ 0 → classes_in d ≡ largest A.n (open_of_lem A (set_in A d) (component_in d)) (rank_in A d)
    -- "else K stays and k becomes the largest level among its own core's open states of K, no other component's, with rank at most the old k"
    pub stays : (classes_in c ≡ 0 → ⊥) → component_in d ≡ component_in c
    pub left : (classes_in c ≡ 0 → ⊥) → classes_in d ≡ largest A.n (λ q. open_of_lem A (set_in A c) (component_in c) q && leb (rank_in A c q) (classes_in c)) level

  -- the macrostates reached over s letters from those that the start condition lets begin
  pub data Reachable (s : ℕ) (start : Set) : ℕ → Type 0 where
    begins : {c : ℕ} → Macrostate c → begun start c ≡ true → Reachable s start c
    goes_to : {c d : ℕ} (a : ℕ) → Reachable s start c → a < s → Macrostate d → Goes c a d → Reachable s start d
