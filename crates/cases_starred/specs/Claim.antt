-- What a case of 01 claims of the definitions, from the bytes of its file on.
use Rattle.std.specs.Prelude.{◌≡◌, ◌↔◌, Bool, true, false, ℕ, ◌<◌, length, get_or}
use mathlib.Core.List.{List, [], ◌∷◌, Memᴰ}
use Rattle.sets.specs.Masks.{bit}
use Rattle.sets.specs.Lists.{Ascending}
use Rattle.theory.specs.Rule.{Rule}
use Rattle.theory.specs.Automaton.{automaton}
use Rattle.theory.specs.Word.{places, letters}
use Rattle.theory.specs.Plan.{AcceptsFrom, AcceptsWord}
use Rattle.theory.specs.Macrostate.{holds_initial, is_initial_lem, is_accepting_lem, Reachable}
use Rattle.theory.specs.Table.{Transition}
use Rattle.theory.specs.TableComputed.{macrostates, transitions}
use Rattle.theory.specs.Run.{AcceptingRun}
use Rattle.file_spec.specs.File.{rule_in}
use Rattle.file_spec.specs.Rows.{file_row}
use Rattle.word_rows.specs.Words.{word_row_lem}
use Rattle.cases_starred.specs.Case.{Line, Start, unsaid, from, Expected, builds, judges, Case}

-- the codes of the lines, in their order
unfoldable pub codes_of : List Line → List ℕ
codes_of [] = []
codes_of (l ∷ ls) = l.code ∷ codes_of ls

-- the rule builds these lines and transitions
pub record Builds (r : Rule) (codeCount moveCount : ℕ) (lines : List Line) (moves : List ℕ) : Type 0 where
  pub codes_counted : length (codes_of lines) ≡ codeCount
  pub moves_counted : length moves ≡ moveCount
  -- 01: "reachable codes ascending"
  pub codes_ascend : Ascending (codes_of lines)
  pub codes_reachable : (c : ℕ) → Memᴰ c (codes_of lines) ↔ Reachable (automaton r) r.s (holds_initial r) c
  -- 01: "initial and accepting are read off each code"
  pub initial_marked : (l : Line) → Memᴰ l lines → l.initial ≡ is_initial_lem r l.code
  pub accepting_marked : (l : Line) → Memᴰ l lines → l.accepting ≡ is_accepting_lem l.code
  -- 01: "transitions ascending"
  pub moves_ascend : Ascending moves
  pub moves_there : (t : ℕ) → Memᴰ t moves ↔ Transition (automaton r) r.s (codes_of lines) t

-- a statement that is said to hold, or not to hold
abbrev pub Said : Bool → Type 0 → Type 0
Said true A = A
Said false A = A → ⊥

-- the word is judged by plans
pub record Judges (r : Rule) (lead cycle : List ℕ) (accepted : Bool) (masks : List ℕ) : Type 0 where
  -- rows 12 to 14 refuse nothing
  pub word_served : word_row_lem r.s lead cycle ≡ 0
  pub verdict : Said accepted (AcceptsWord r lead cycle)
  -- 01: "per place, the mask of accepting pairs' states"
  pub masks_counted : length masks ≡ places lead cycle
  pub pairs : (q p : ℕ) → p < places lead cycle → (bit (get_or masks p 0) q ≡ true) ↔ ((q < r.n) × AcceptsFrom r lead cycle q p)

-- a run through the numbers of first, then through those of loop for ever: they follow each other as the letters of a word do
abbrev pub through : List ℕ → List ℕ → ℕ → ℕ
through first loop = letters first loop

-- the run begins at the number, whose macrostate has the code; it accepts, and every accepting run over the word is this one
pub record Begins (r : Rule) (lead cycle : List ℕ) (number code : ℕ) (first loop : List ℕ) : Type 0 where
  pub begins : through first loop 0 ≡ number
  pub coded : get_or (macrostates r) number 0 ≡ code
  pub accepts : AcceptingRun (macrostates r) (transitions r) (holds_initial r) (letters lead cycle) (through first loop)
  pub only : (x : ℕ → ℕ) → AcceptingRun (macrostates r) (transitions r) (holds_initial r) (letters lead cycle) x → (i : ℕ) → x i ≡ through first loop i

abbrev pub Starts : Rule → List ℕ → List ℕ → Start → Type 0
Starts r lead cycle unsaid = Unit {0}
Starts r lead cycle (from number code first loop) = Begins r lead cycle number code first loop

abbrev pub Meets : Rule → Expected → Type 0
Meets r (builds codeCount moveCount lines moves) = Builds r codeCount moveCount lines moves
Meets r (judges lead cycle accepted masks start) = Judges r lead cycle accepted masks × Starts r lead cycle start

-- the common claim: the file is accepted, and its rule meets what is expected
pub record Claim (c : Case) : Type 0 where
  pub served : file_row c.file ≡ 0
  pub meets : Meets (rule_in c.file) c.expected
