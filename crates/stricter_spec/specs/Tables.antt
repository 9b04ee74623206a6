-- What steps between cores ask of a table: numbers of one core go on alike, and acceptance is a matter of cores.
use Rattle.std.specs.Prelude.{◌≡◌, Bool, true, false, ℕ, suc, ◌+◌, ◌≤◌, ◌<◌, length, get_or}
use mathlib.Core.List.{List, Memᴰ}
use Rattle.sets.specs.Tests.{one}
use Rattle.theory.specs.Macrostate.{is_accepting_lem}
use Rattle.theory.specs.Run.{source_of, letter_of_lem, target_of}
use Rattle.trim_spec.specs.Graph.{Inside}
use Rattle.stricter_spec.specs.Tags.{row_of_lem, onto_of_lem, sparing}

-- core gives the number that stands for the core of a number, spare says whether a transition spares a component
module _ (codes moves : List ℕ) (components : ℕ) (core : ℕ → ℕ) (spare : ℕ → ℕ → Bool) where
  pub record CoreTable : Type 0 where
    pub few : length codes ≤ 65536
    pub inside : Inside (length codes) moves
    pub within : (i : ℕ) → i < length codes → core i < length codes
    pub stands : (i : ℕ) → i < length codes → core (core i) ≡ core i
    -- numbers of one core go over the same letters to the same cores
    pub lifts : (t i : ℕ) → Memᴰ t moves → i < length codes → core i ≡ core (source_of t)
        → (u : ℕ) × Memᴰ u moves × (source_of u ≡ i) × (letter_of_lem u ≡ letter_of_lem t) × (core (target_of u) ≡ core (target_of t))
    -- and spare the same components
    pub alike : (t u K : ℕ) → Memᴰ t moves → Memᴰ u moves → letter_of_lem t ≡ letter_of_lem u → core (source_of t) ≡ core (source_of u)
        → core (target_of t) ≡ core (target_of u) → K < components → spare t K ≡ spare u K
    -- K of a number
    pub component : ℕ → ℕ
    pub known : (i : ℕ) → i < length codes → component i < components
    -- how many steps more can spare K before k is 0
    pub left : ℕ → ℕ
    pub nears : (t : ℕ) → Memᴰ t moves → is_accepting_lem (get_or codes (source_of t) 0) ≡ false → is_accepting_lem (get_or codes (target_of t) 0) ≡ false
        → (component (target_of t) ≡ component (source_of t)) × (left (target_of t) + one (spare t (component (source_of t))) ≤ left (source_of t))
    -- where k is 0 again and again, each component is spared again and again
    pub again : (t : ℕ → ℕ) → ((i : ℕ) → Memᴰ (t i) moves) → ((i : ℕ) → target_of (t i) ≡ source_of (t (suc i)))
        → ((i : ℕ) → (j : ℕ) × (i < j) × (is_accepting_lem (get_or codes (source_of (t j)) 0) ≡ true))
        → (K : ℕ) → K < components → (i : ℕ) → (j : ℕ) × (i ≤ j) × (spare (t j) K ≡ true)

  -- what tagged transitions show of the transitions in their places
  pub record Shown (tagged : List ℕ) : Type 0 where
    pub long : length tagged ≡ length moves
    pub row : (k : ℕ) → k < length moves → row_of_lem (get_or tagged k 0) ≡ source_of (get_or moves k 0)
    pub letter : (k : ℕ) → k < length moves → letter_of_lem (get_or tagged k 0) ≡ letter_of_lem (get_or moves k 0)
    pub onto : (k : ℕ) → k < length moves → onto_of_lem (get_or tagged k 0) ≡ core (target_of (get_or moves k 0))
    pub spares : (k K : ℕ) → k < length moves → K < components → sparing (get_or tagged k 0) K ≡ spare (get_or moves k 0) K
