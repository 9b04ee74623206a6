-- The last sentence of demand 3, of a rule and two lists; that the build is not refused for room and leaves these lists is build/proofs, built-with-room.
use Rattle.std.specs.Prelude.{◌≡◌, ◌↔◌, List, ℕ}
use Rattle.sets.specs.Tests.{Set}
use Rattle.theory.specs.Rule.{Rule}
use Rattle.theory.specs.Word.{WordOver, letters}
use Rattle.theory.specs.Plan.{AcceptsWord}
use Rattle.theory.specs.Macrostate.{holds_initial}
use Rattle.theory.specs.Run.{AcceptingRun}

-- of the words that the automaton is to accept, a lead-in and a cycle, and the start condition of its runs
pub record DemandFrom (r : Rule) (start : Set) (words : List ℕ → List ℕ → Type 0) (codes transitions : List ℕ) : Type 0 where
  -- "On every word over the rule's letters, with any finite lead-in and any non-empty cycle, however long,
  -- the built automaton has an accepting run exactly when" the word is one of these
  pub exact : (lead cycle : List ℕ) → WordOver r.s lead cycle → words lead cycle ↔ ((x : ℕ → ℕ) × AcceptingRun codes transitions start (letters lead cycle) x)
  -- "and never two accepting runs that differ at any step": over any endless sequence of letters
  pub unambiguous : (w x y : ℕ → ℕ) → AcceptingRun codes transitions start w x → AcceptingRun codes transitions start w y → (i : ℕ) → x i ≡ y i

-- "exactly when the rule accepts the word", from the initial macrostates
abbrev pub Demand3 : Rule → List ℕ → List ℕ → Type 0
Demand3 r = DemandFrom r (holds_initial r) (AcceptsWord r)
