-- Distances, by plans.
use Rattle.std.specs.Prelude.{◌≡◌, true, ℕ, suc, ◌≤◌, ◌<◌}
use Rattle.sets.specs.Masks.{bit}
use Rattle.theory.specs.Automaton.{Automaton}
use Rattle.theory.specs.Plan.{Accepts}

-- next is the place that follows a place, letter the letter there
module _ (A : Automaton) (next letter : ℕ → ℕ) where
  -- the pairs that a plan reaches from state a at place x after just so many steps
  pub data After (pick : ℕ → ℕ → ℕ) (a x : ℕ) : ℕ → ℕ → ℕ → Type 0 where
    here : After pick a x 0 a x
    on : {d q p : ℕ} (r y : ℕ) → After pick a x d q p → r < A.n → bit (pick q p) r ≡ true → y ≡ next p → After pick a x (suc d) r y

  -- 02: the plan "has left the component on all its paths after d steps": no path of d steps ends in it.
  -- "an empty clause leaves it in one step": it begins no path of one step.
  abbrev pub Left : (ℕ → ℕ → ℕ) → ℕ → ℕ → ℕ → Type 0
  Left pick a x d = (q p : ℕ) → After pick a x d q p → A.component q ≡ A.component a → ⊥

  -- 02: "some accepting plan from the pair has left the component on all its paths after d steps"
  pub record Leaves (a x d : ℕ) : Type 0 where
    pub plan : Accepts A next letter a x
    pub left : Left plan.pick a x d

  -- 02: "Distance is the least d such that some accepting plan from the pair has left the component on all its paths after d steps"
  pub record Distance (a x d : ℕ) : Type 0 where
    pub leaves : Leaves a x d
    pub least : (e : ℕ) → Leaves a x e → d ≤ e

  -- state r at place y has a smaller distance than state q at place p
  pub record Nearer (r y q p : ℕ) : Type 0 where
    pub here : ℕ
    pub there : ℕ
    pub from_here : Distance q p here
    pub from_there : Distance r y there
    pub smaller : there < here
