-- What the search for a word that two tables accept asks of them, and what it answers.
use Rattle.std.specs.Prelude.{◌≡◌, ℕ, ◌+◌, ◌*◌, ◌≤◌, ◌<◌, length, get_or, drop}
use mathlib.Core.List.{List, ◌++◌, Memᴰ}
use Rattle.sets.specs.Lists.{Ascending}
use Rattle.sets.specs.Tests.{Set}
use Rattle.theory.specs.Macrostate.{is_accepting_lem}
use Rattle.theory.specs.Run.{source_of, letter_of_lem, target_of, AcceptingRun}
use Rattle.trim_spec.specs.Graph.{Inside}
use Rattle.stricter_spec.specs.Ways.{Lasso}
use Rattle.stricter_spec.specs.declared.Found.{Found}
use Rattle.stricter_spec.specs.declared.Found.TheVariants.{Nothing, Word}

-- Over a letter a number has at most one accepting source and at most one other:
-- a letter and whether the source is accepting tell where a transition to a number comes from.
pub record OneParent (codes transitions : List ℕ) : Type 0 where
  pub one : (t u : ℕ) → Memᴰ t transitions → Memᴰ u transitions → letter_of_lem t ≡ letter_of_lem u → target_of t ≡ target_of u
      → is_accepting_lem (get_or codes (source_of t) 0) ≡ is_accepting_lem (get_or codes (source_of u) 0) → source_of t ≡ source_of u

-- a table that the search takes
pub record Searchable (codes transitions : List ℕ) : Type 0 where
  pub few : length codes ≤ 65536
  pub ascend : Ascending transitions
  pub inside : Inside (length codes) transitions
  pub lettered : (t : ℕ) → Memᴰ t transitions → letter_of_lem t < 16
  pub parents : OneParent codes transitions

-- two tables, each with its start condition
module _ (codes_a_lem moves_a : List ℕ) (start_a : Set) (codes_b_lem moves_b : List ℕ) (start_b : Set) where
  -- no sequence of letters has an accepting run of each table
  abbrev pub NoShared : Type 0
  NoShared = (w x y : ℕ → ℕ) → AcceptingRun codes_a_lem moves_a start_a w x → AcceptingRun codes_b_lem moves_b start_b w y → ⊥

  -- a word with such runs. 02: "the word slice under 3 × P letters", "P the macrostates of A × those of B"
  pub record Shared (lead cycle : List ℕ) : Type 0 where
    pub repeats : 0 < length cycle
    pub short : length lead + length cycle ≤ 3 * (length codes_a_lem * length codes_b_lem)
    pub of_a : Lasso codes_a_lem moves_a start_a lead cycle
    pub of_b : Lasso codes_b_lem moves_b start_b lead cycle

  -- its letters at the start of the word slice
  pub record Written (l c : ℕ) (old new : List ℕ) : Type 0 where
    pub lead : List ℕ
    pub cycle : List ℕ
    pub lead_long : length lead ≡ l
    pub cycle_long : length cycle ≡ c
    pub letters : new ≡ lead ++ cycle ++ drop (l + c) old
    pub shared : Shared lead cycle

  -- the answer, and the word slice before and after: "the word slice changed only where the word is"
  abbrev pub Searched : List ℕ → List ℕ → Found → Type 0
  Searched old new Nothing = (new ≡ old) × NoShared
  Searched old new (Word l c) = Written l c old new
