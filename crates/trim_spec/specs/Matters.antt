-- Macrostates that matter, by runs, and what the lists of the trimmed table hold.
use Rattle.std.specs.Prelude.{◌≡◌, true, List, ℕ, suc, ◌<◌, get_or}
use Rattle.theory.specs.Automaton.{Automaton, automaton}
use Rattle.theory.specs.Macrostate.{is_accepting_lem, holds_initial, Macrostate, Goes, Reachable}
use Rattle.theory.specs.Rule.{Rule}
use Rattle.theory.specs.Run.{AcceptingRun}
use Rattle.theory.specs.Table.{Listed}
use Rattle.theory.specs.Word.{WordOver, letters}

-- 01's accepting run but for where it begins: c gives the code of each step, w its letter.
-- "goes from each step to the next by a transition over the step's letter; it accepts if after each step a later one is accepting"
pub record GoesOn (A : Automaton) (w c : ℕ → ℕ) : Type 0 where
  pub macrostate : (i : ℕ) → Macrostate A (c i)
  pub steps : (i : ℕ) → Goes A (c i) (w i) (c (suc i))
  pub again : (i : ℕ) → (j : ℕ) × (i < j) × (is_accepting_lem (c j) ≡ true)

-- 02: a macrostate "from which an accepting run on some lead-in and cycle of any length exists"
pub record Matters (r : Rule) (code : ℕ) : Type 0 where
  pub lead : List ℕ
  pub cycle : List ℕ
  pub word : WordOver r.s lead cycle
  pub run : ℕ → ℕ
  pub begins : run 0 ≡ code
  pub goes_on : GoesOn (automaton r) (letters lead cycle) run

-- 02: "keeps reachable macrostates from which an accepting run on some lead-in and cycle of any length exists, renumbered ascending,
-- and the transitions between them": what two lists hold that list these
abbrev pub ListsMattering : Rule → List ℕ → List ℕ → Type 0
ListsMattering r = Listed r (λ c. Reachable (automaton r) r.s (holds_initial r) c × Matters r c)

-- 02: "The one accepting run of each word must survive in the smaller table.": to each accepting run of the table of codes and transitions, over
-- any endless sequence of letters, the smaller table has one with the same macrostate at every step
abbrev pub RunsSurvive : Rule → List ℕ → List ℕ → List ℕ → List ℕ → Type 0
RunsSurvive r codes transitions left kept = (w x : ℕ → ℕ) → AcceptingRun codes transitions (holds_initial r) w x
    → (y : ℕ → ℕ) × AcceptingRun left kept (holds_initial r) w y × ((i : ℕ) → get_or left (y i) 0 ≡ get_or codes (x i) 0)
