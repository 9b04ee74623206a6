-- The choice of a true pair, and what a slice of choices means, by plans.
use Rattle.std.specs.Prelude.{◌≡◌, true, false, List, ℕ, ◌+◌, ◌*◌, ◌<◌, length, get_or}
use Rattle.sets.specs.Masks.{bit}
use Rattle.theory.specs.Rule.{Rule, entry}
use Rattle.theory.specs.Automaton.{Automaton, automaton}
use Rattle.theory.specs.Word.{places, next_place_lem, letter_at_lem}
use Rattle.theory.specs.Plan.{Accepts, AcceptsFrom}
use Rattle.judge_choices_spec.specs.Distance.{Nearer}

-- next is the place that follows a place, letter the letter there
module _ (A : Automaton) (next letter : ℕ → ℕ) where
  -- the clause c will do for state q at place p
  pub record Suits (q p c : ℕ) : Type 0 where
    -- 02: "whose states are all true at the next place"
    pub truths : (r : ℕ) → r < A.n → bit c r ≡ true → Accepts A next letter r (next p)
    -- 02, for a rejecting state: "and, within the component, have a smaller distance"
    pub nearer : A.accepting q ≡ false → (r : ℕ) → r < A.n → bit c r ≡ true → A.component r ≡ A.component q → Nearer A next letter r (next p) q p

  -- 02: the choice of a true pair: clause number k, "0 for the entry's first", is "the first clause" of the entry that will do
  pub record Choice (q p k : ℕ) : Type 0 where
    pub listed : k < length (A.entry q (letter p))
    pub suits : Suits q p (get_or (A.entry q (letter p)) k 0)
    pub first : (j : ℕ) → j < k → Suits q p (get_or (A.entry q (letter p)) j 0) → ⊥

-- the plan that a slice of choices writes down
abbrev pub plan_of : Rule → List ℕ → List ℕ → List ℕ → ℕ → ℕ → ℕ
plan_of r lead cycle choices q p = get_or (entry r q (letter_at_lem lead cycle p)) (get_or choices (p * r.n + q) 0) 0

-- what choices mean, by plans
pub record Written (r : Rule) (lead cycle choices : List ℕ) : Type 0 where
  -- 02: "The judge writes for each true pair a clause number, 0 for the entry's first, at byte place × n + state"
  pub true_pairs : (q p : ℕ) → q < r.n → p < places lead cycle → AcceptsFrom r lead cycle q p
      → Choice (automaton r) (next_place_lem lead cycle) (letter_at_lem lead cycle) q p (get_or choices (p * r.n + q) 0)
  -- 02: "False pairs get 255."
  pub false_pairs : (q p : ℕ) → q < r.n → p < places lead cycle → (AcceptsFrom r lead cycle q p → ⊥) → get_or choices (p * r.n + q) 0 ≡ 255
  -- 02: "The written choices must form an accepting plan from every true pair."
  pub plan : (q p : ℕ) → q < r.n → p < places lead cycle → AcceptsFrom r lead cycle q p
      → (P : AcceptsFrom r lead cycle q p) × (P.pick ≡ plan_of r lead cycle choices)
