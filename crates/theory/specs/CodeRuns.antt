-- Accepting runs as sequences of codes, which the proof of demand 3 goes by.
use Rattle.std.specs.Prelude.{◌≡◌, ◌↔◌, true, List, ℕ, suc, ◌<◌}
use Rattle.theory.specs.Rule.{Rule}
use Rattle.theory.specs.Word.{next_place_lem, place, letters}
use Rattle.theory.specs.Automaton.{Automaton, automaton}
use Rattle.theory.specs.Plan.{AcceptsFrom}
use Rattle.theory.specs.Code.{set_in, component_in, classes_in}
use Rattle.theory.specs.Macrostate.{is_accepting_lem, Macrostate, Goes}

-- An accepting run as a sequence of codes, over the letters w, with no start condition but "K is 0 and k is 0"
pub record CodeRun (A : Automaton) (w c : ℕ → ℕ) : Type 0 where
  pub macrostate : (i : ℕ) → Macrostate A (c i)
  pub component : component_in (c 0) ≡ 0
  pub classes : classes_in (c 0) ≡ 0
  pub steps : (i : ℕ) → Goes A (c i) (w i) (c (suc i))
  pub again : (i : ℕ) → (j : ℕ) × (i < j) × (is_accepting_lem (c j) ≡ true)

-- What demand 3 follows from: c is an accepting run of codes over the word, and its set at each step is the truth at the step's place
pub record WordRun (r : Rule) (lead cycle : List ℕ) (c : ℕ → ℕ) : Type 0 where
  pub run : CodeRun (automaton r) (letters lead cycle) c
  pub truth : (i q : ℕ) → q < r.n → (set_in (automaton r) (c i) q ≡ true) ↔ AcceptsFrom r lead cycle q (place (next_place_lem lead cycle) i)
