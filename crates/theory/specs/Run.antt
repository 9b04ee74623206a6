-- Runs of any table: two lists, codes and packed transitions, over any sequence of letters.
use Rattle.std.specs.Prelude.{◌≡◌, true, ℕ, suc, ◌/◌, ◌%◌, ◌<◌, length, get_or}
use mathlib.Core.List.{List, Memᴰ}
use Rattle.sets.specs.Tests.{Set}
use Rattle.theory.specs.Macrostate.{begun, is_accepting_lem}

-- the parts of a packed transition
abbrev pub source_of : ℕ → ℕ
source_of t = t / 16777216

abbrev pub letter_of_lem : ℕ → ℕ
letter_of_lem t = t / 65536 % 256

abbrev pub target_of : ℕ → ℕ
target_of t = t % 65536

-- the transition t leads from number x over the letter a to number y
pub record Leads (t x a y : ℕ) : Type 0 where
  pub source : source_of t ≡ x
  pub letter : letter_of_lem t ≡ a
  pub target : target_of t ≡ y

module _ (codes transitions : List ℕ) where
  -- 01: "A run gives one macrostate to every step, begins in an initial one and goes from each step to the next by a transition over the step's letter":
  -- w gives the letter of each step, x the number of its macrostate, start is the start condition; begun (holds_initial r) is is_initial_lem r
  pub record Run (start : Set) (w x : ℕ → ℕ) : Type 0 where
    pub within : (i : ℕ) → x i < length codes
    pub begins : begun start (get_or codes (x 0) 0) ≡ true
    pub moves : (i : ℕ) → (t : ℕ) × Memᴰ t transitions × Leads t (x i) (w i) (x (suc i))

  -- 01: "it accepts if after each step a later one is accepting"
  pub record AcceptingRun (start : Set) (w x : ℕ → ℕ) : Type 0 where
    pub run : Run start w x
    pub again : (i : ℕ) → (j : ℕ) × (i < j) × (is_accepting_lem (get_or codes (x j) 0) ≡ true)
