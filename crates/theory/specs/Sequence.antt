-- Acceptance and rejection over any endless sequence of letters, repeating or not: 000's run graphs.
use Rattle.std.specs.Prelude.{◌≡◌, true, false, ◌⊎◌, ℕ, suc, ◌+◌, ◌≤◌, ◌<◌}
use mathlib.Core.List.{Memᴰ}
use Rattle.sets.specs.Masks.{bit}
use Rattle.theory.specs.Rule.{Rule}
use Rattle.theory.specs.Automaton.{Automaton, automaton}

-- 000: a run is "a run directed acyclic graph": vertices are pairs of a state and a step, "V ⊆ Q × N", and edges lead from a step to the next.
-- E q i r: an edge leads from state q at step i to state r at step i + 1
module _ (E : ℕ → ℕ → ℕ → Type 0) where
  -- the pairs that are reached from state a at step x
  pub data Reaches (a x : ℕ) : ℕ → ℕ → Type 0 where
    here : Reaches a x a x
    on : {q i : ℕ} (r j : ℕ) → Reaches a x q i → E q i r → j ≡ suc i → Reaches a x r j

  -- no path stays for ever: after a number of steps, which state q at step i has for its own, every path from there has left the component of q.
  -- 000: a run graph is accepting "if all its ω-branches visit accepting vertices infinitely often". This follows (endless_spec/proofs/Branches). In turn the number
  -- follows from it by König's lemma, as each step has finitely many states: a classical argument, which nothing here rests on
  pub record Leaves (A : Automaton) (q i : ℕ) : Type 0 where
    pub steps : ℕ
    pub left : (r j : ℕ) → Reaches q i r j → i + steps ≤ j → A.component r ≡ A.component q → ⊥

-- w gives the letter of each step
module _ (A : Automaton) (w : ℕ → ℕ) where
  -- 01: "A plan picks one clause for each pair of state and place that it reaches": pick q i is the clause of state q at step i;
  -- "from the pair it reaches each state of the clause at the following place"
  abbrev pub to_each : (ℕ → ℕ → ℕ) → ℕ → ℕ → ℕ → Type 0
  to_each pick q i r = (r < A.n) × (bit (pick q i) r ≡ true)

  -- the rule accepts from state a at step x: 000, "for every vertex .. we have that" the targets of its edges satisfy "δ(q, w[l])"
  pub record AcceptsAt (a x : ℕ) : Type 0 where
    pub pick : ℕ → ℕ → ℕ
    -- each reached pair has its clause from the entry of that state and the step's letter
    pub valid : (q i : ℕ) → Reaches (to_each pick) a x q i → Memᴰ (pick q i) (A.entry q (w i))
    -- no path stays in a rejecting component
    pub leaves : (q i : ℕ) → Reaches (to_each pick) a x q i → A.accepting q ≡ false → Leaves (to_each pick) A q i

  -- the dual, by "exchanging the occurrences of ff and tt and the occurrences of ∧ and ∨, and F^ = Q \ F": for each clause one of its states,
  -- member q i c for clause c of state q at step i
  abbrev pub to_members : (ℕ → ℕ → ℕ → ℕ) → ℕ → ℕ → ℕ → Type 0
  to_members member q i r = (c : ℕ) × Memᴰ c (A.entry q (w i)) × (r ≡ member q i c)

  -- the rule rejects from state a at step x
  pub record RejectsAt (a x : ℕ) : Type 0 where
    pub member : ℕ → ℕ → ℕ → ℕ
    -- each clause of a reached pair has its member
    pub valid : (q i : ℕ) → Reaches (to_members member) a x q i → (c : ℕ) → Memᴰ c (A.entry q (w i)) → (member q i c < A.n) × (bit c (member q i c) ≡ true)
    -- no path stays in an accepting component
    pub leaves : (q i : ℕ) → Reaches (to_members member) a x q i → A.accepting q ≡ true → Leaves (to_members member) A q i

-- 000: "An ω-word w is accepting if there is an accepting run DAG of A over w", from the initial state at step 0
abbrev pub AcceptsSequence : Rule → (ℕ → ℕ) → Type 0
AcceptsSequence r w = AcceptsAt (automaton r) w r.initial 0

abbrev pub RejectsSequence : Rule → (ℕ → ℕ) → Type 0
RejectsSequence r w = RejectsAt (automaton r) w r.initial 0

-- it is told, for each state and step, that the rule accepts or that it rejects from there. In classical logic every sequence is such a one (weak games are
-- determined; Lemma 1 of 000). Here it is a premise, where it is needed, and never assumed
abbrev pub Determined : Rule → (ℕ → ℕ) → Type 0
Determined r w = (q i : ℕ) → q < r.n → AcceptsAt (automaton r) w q i ⊎ RejectsAt (automaton r) w q i
