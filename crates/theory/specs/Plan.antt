-- Plans: what it means that the rule accepts from a state at a place.
use Rattle.std.specs.Prelude.{◌≡◌, true, false, ℕ, ◌<◌}
use mathlib.Core.List.{List, Memᴰ}
use Rattle.sets.specs.Masks.{bit}
use Rattle.theory.specs.Rule.{Rule}
use Rattle.theory.specs.Word.{next_place_lem, letter_at_lem}
use Rattle.theory.specs.Automaton.{Automaton, automaton}

-- next is the place that follows a place, letter the letter there
module _ (A : Automaton) (next letter : ℕ → ℕ) where
  -- 01: "A plan picks one clause for each pair of state and place that it reaches": pick q p is the clause of state q at place p.
  -- "from the pair it reaches each state of the clause at the following place": the pairs that it reaches from state a at place x
  pub data Reach (pick : ℕ → ℕ → ℕ) (a x : ℕ) : ℕ → ℕ → Type 0 where
    here : Reach pick a x a x
    on : {q p : ℕ} (r y : ℕ) → Reach pick a x q p → r < A.n → bit (pick q p) r ≡ true → y ≡ next p → Reach pick a x r y

  -- 01: "The rule accepts from a pair if some plan, begun there, reaches no pair without a clause
  -- and no pair with a rejecting state that lies on a cycle of reached pairs."
  pub record Accepts (a x : ℕ) : Type 0 where
    pub pick : ℕ → ℕ → ℕ
    -- each reached pair has its clause "from the entry of that state and the letter there"
    pub valid : (q p : ℕ) → Reach pick a x q p → Memᴰ (pick q p) (A.entry q (letter p))
    -- no reached pair with a rejecting state is reached again from a state of its clause
    pub fair : (q p : ℕ) → Reach pick a x q p → A.accepting q ≡ false → (r : ℕ) → r < A.n → bit (pick q p) r ≡ true → Reach pick r (next p) q p → ⊥

-- the rule accepts from state q at place p of the word
abbrev pub AcceptsFrom : Rule → List ℕ → List ℕ → ℕ → ℕ → Type 0
AcceptsFrom r lead cycle q p = Accepts (automaton r) (next_place_lem lead cycle) (letter_at_lem lead cycle) q p

-- 01: "It accepts the word if it accepts from its initial state at place 0."
abbrev pub AcceptsWord : Rule → List ℕ → List ℕ → Type 0
AcceptsWord r lead cycle = AcceptsFrom r lead cycle r.initial 0
