-- Endless sequences of letters, whatever they are.
use Rattle.std.specs.Prelude.{◌≡◌, ◌↔◌, true, false, List, ℕ, ◌<◌, get_or}
use Rattle.sets.specs.Masks.{bit}
use Rattle.sets.specs.Tests.{Set}
use Rattle.theory.specs.Automaton.{automaton}
use Rattle.theory.specs.Macrostate.{holds_initial}
use Rattle.theory.specs.Rule.{Rule}
use Rattle.theory.specs.Run.{AcceptingRun}
use Rattle.theory.specs.Sequence.{AcceptsAt, RejectsAt, AcceptsSequence, RejectsSequence, Determined}

-- 02: "For every endless sequence of letters whatever, given as a letter for each step, the built automaton must not have two accepting runs
-- that differ at any step. The table of M-104 is included.": of any two lists; w gives the letter of each step, x and y the numbers of two runs
-- by the start condition
abbrev pub NeverTwoFrom : Set → List ℕ → List ℕ → Type 0
NeverTwoFrom start codes transitions = (w x y : ℕ → ℕ) → AcceptingRun codes transitions start w x → AcceptingRun codes transitions start w y → (i : ℕ) → x i ≡ y i

-- runs that begin in an initial macrostate
abbrev pub NeverTwo : Rule → List ℕ → List ℕ → Type 0
NeverTwo r = NeverTwoFrom (holds_initial r)

-- 000, Theorem 12, over all endless sequences: of any two lists, of the start condition of their runs, and of the sequences that they are to accept
pub record TruthFrom (r : Rule) (start : Set) (sequences : (ℕ → ℕ) → Type 0) (codes transitions : List ℕ) : Type 0 where
  -- the set of an accepting run holds a state at a step exactly if the rule accepts from there, and lacks it exactly if the rule rejects
  pub holds : (w x : ℕ → ℕ) → AcceptingRun codes transitions start w x → (q i : ℕ) → q < r.n → (bit (get_or codes (x i) 0) q ≡ true) ↔ AcceptsAt (automaton r) w q i
  pub lacks : (w x : ℕ → ℕ) → AcceptingRun codes transitions start w x → (q i : ℕ) → q < r.n → (bit (get_or codes (x i) 0) q ≡ false) ↔ RejectsAt (automaton r) w q i
  -- so a sequence with an accepting run is one of these
  pub sound : (w x : ℕ → ℕ) → AcceptingRun codes transitions start w x → sequences w
  -- and of a sequence over the rule's letters of which it is told, for each state and step, whether the rule accepts or rejects, the other way round
  pub complete : (w : ℕ → ℕ) → ((i : ℕ) → w i < r.s) → Determined r w → sequences w → (x : ℕ → ℕ) × AcceptingRun codes transitions start w x
  -- no sequence is both accepted and rejected
  pub never_both : (w : ℕ → ℕ) → AcceptsSequence r w → RejectsSequence r w → ⊥

-- runs that begin in an initial macrostate: the sequences that the rule accepts
abbrev pub TellsTruth : Rule → List ℕ → List ℕ → Type 0
TellsTruth r = TruthFrom r (holds_initial r) (AcceptsSequence r)
