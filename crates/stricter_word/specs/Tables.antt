-- Where transitions come from, a way that is found and written, and what a word is found by.
use Rattle.std.specs.Prelude.{◌≡◌, Bool, true, false, ℕ, ◌*◌, ◌≤◌, ◌<◌, length, get_or}
use mathlib.Core.List.{List, Memᴰ}
use Rattle.sets.specs.Tests.{Set}
use Rattle.theory.specs.Macrostate.{is_accepting_lem}
use Rattle.theory.specs.Run.{source_of, letter_of_lem, target_of}
use Rattle.stricter_spec.specs.declared.Found.{Found}
use Rattle.stricter_spec.specs.Search.{Searchable, Searched}
use Rattle.stricter_laws.specs.Pairs.{PairEdge}
use Rattle.stricter_laws.specs.Sound.{BothSound}
use Rattle.stricter_laws.specs.Tests.{accepts_in, starts_in}
use Rattle.stricter_laws.specs.Forest.{SameIn}
use Rattle.stricter_laws.specs.Routes.{RouteAt}

-- whether the transition t goes over the letter to the target, from a number that is accepting or not
pub record Suits (codes : List ℕ) (t letter target : ℕ) (accepting r : Bool) : Type 0 where
  pub over : r ≡ true → letter_of_lem t ≡ letter
  pub to : r ≡ true → target_of t ≡ target
  pub from : r ≡ true → is_accepting_lem (get_or codes (source_of t) 0) ≡ accepting
  pub all : letter_of_lem t ≡ letter → target_of t ≡ target → is_accepting_lem (get_or codes (source_of t) 0) ≡ accepting → r ≡ true

-- where all transitions that do come from
pub record SourceIs (codes moves : List ℕ) (letter target : ℕ) (accepting : Bool) (r : ℕ) : Type 0 where
  pub low : r ≤ 65536
  pub source : (t : ℕ) → Memᴰ t moves → letter_of_lem t ≡ letter → target_of t ≡ target
      → is_accepting_lem (get_or codes (source_of t) 0) ≡ accepting → r ≡ source_of t

-- a way of n steps was found and written
pub record Way (S : ℕ → ℕ → ℕ → Type 0) (x y at n : ℕ) (marks found old new : List ℕ) : Type 0 where
  pub same : SameIn marks found
  pub written : RouteAt S x y at n old new
  pub some : 0 < n
  pub short : n ≤ length marks

-- a way of r steps from the start back to it was found and written, and it passes both tests; or r is 0
pub record Round (S : ℕ → ℕ → ℕ → Type 0) (p q : Set) (start r : ℕ) (marks found old new : List ℕ) : Type 0 where
  pub same : SameIn marks found
  pub short : r ≤ length marks
  pub none : r ≡ 0 → new ≡ old
  pub written : 0 < r → RouteAt S start start 0 r old new
  pub first : 0 < r → p start ≡ true
  pub second : 0 < r → q start ≡ true

module _ (lcodes left rcodes right : List ℕ) (start : ℕ) where
  -- what is asked of two tables, the word slice and the marks of the pairs, of which the start pair is in
  abbrev pub LassoReady : List ℕ → List ℕ → Type 0
  LassoReady word marks =
      Searchable lcodes left × Searchable rcodes right × (length marks ≡ length lcodes * length rcodes)
      × (3 * (length lcodes * length rcodes) ≤ length word) × (0 < get_or marks start 0)
      × BothSound (PairEdge (length rcodes) left right) (accepts_in lcodes rcodes false) (accepts_in lcodes rcodes true) marks

  -- the word that is found begins at the start pair, by whatever start conditions that passes
  abbrev pub LassoFound : List ℕ → List ℕ → Found → Type 0
  LassoFound old new r =
      (start_a start_b : Set) → starts_in lcodes rcodes start_a start_b start ≡ true → Searched lcodes left start_a rcodes right start_b old new r
