-- What a build promises of a file.
use Rattle.std.specs.Prelude.{◌≡◌, List, ℕ, length, take}
use Rattle.std.specs.Prelude.{Result, Ok, Err}
use Rattle.refusals.specs.declared.Refusal.{Refusal}
use Rattle.sets.specs.Tests.{Set}
use Rattle.theory.specs.Demand.{DemandFrom}
use Rattle.theory.specs.Macrostate.{holds_initial}
use Rattle.theory.specs.Plan.{AcceptsWord}
use Rattle.theory.specs.Rule.{Rule}
use Rattle.theory.specs.Sequence.{AcceptsSequence}
use Rattle.theory.specs.Table.{ListsFrom}
use Rattle.endless_spec.specs.Endless.{NeverTwoFrom, TruthFrom}
use Rattle.file_spec.specs.File.{rule_in}
use Rattle.file_spec.specs.Rows.{file_row}
use Rattle.build.specs.declared.Counts.{Counts}
use Rattle.build.specs.Built.{built_from, codes_after_from, transitions_after_from}
use Rattle.build.specs.Filling.{Made}

-- of the start condition where its runs begin, and of the words and the endless sequences that its automaton is to accept: the answer b, and the
-- slices of codes and transitions afterwards, ys and ws; they were lent as xs and zs
pub record FileBuilt (start : Rule → Set) (words : Rule → List ℕ → List ℕ → Type 0) (sequences : Rule → (ℕ → ℕ) → Type 0) (file xs zs : List ℕ) (b : Result Counts Refusal) (ys ws : List ℕ) : Type 0 where
  pub answer : b ≡ built_from start file (length xs) (length zs)
  pub codes_after : ys ≡ codes_after_from start file xs (length zs)
  pub moves_after : ws ≡ transitions_after_from start file (length xs) zs
  -- any two lists of the macrostates that are reached and of their transitions decide the answer and both slices, served and refused alike:
  -- "17 and 18 hold only when the defined counts exceed the room"
  pub by_lists : file_row file ≡ 0 → (codes moves : List ℕ) → ListsFrom (rule_in file) (start (rule_in file)) codes moves → Made codes moves xs zs b ys ws
  -- what the slices hold, each up to its count: demand 2, "all of them and no others"
  pub lists : (n : Counts) → b ≡ Ok n → ListsFrom (rule_in file) (start (rule_in file)) (take n.macrostates ys) (take n.transitions ws)
  -- demand 3: an accepting run exactly over these words, and never two
  pub demand : (n : Counts) → b ≡ Ok n → DemandFrom (rule_in file) (start (rule_in file)) (words (rule_in file)) (take n.macrostates ys) (take n.transitions ws)
  -- 02, M-112: "For every endless sequence of letters whatever, given as a letter for each step, the built automaton must not have two accepting runs
  -- that differ at any step."
  pub never_two : (n : Counts) → b ≡ Ok n → NeverTwoFrom (start (rule_in file)) (take n.macrostates ys) (take n.transitions ws)
  -- over every endless sequence the sets of an accepting run tell the truth, and so the sequence is one of these
  pub truth : (n : Counts) → b ≡ Ok n → TruthFrom (rule_in file) (start (rule_in file)) (sequences (rule_in file)) (take n.macrostates ys) (take n.transitions ws)

-- 01's build: its runs begin in the initial macrostates, and its automaton accepts the words and the sequences that the rule accepts
abbrev pub TableBuilt : List ℕ → List ℕ → List ℕ → Result Counts Refusal → List ℕ → List ℕ → Type 0
TableBuilt = FileBuilt holds_initial AcceptsWord AcceptsSequence
