-- Tables of eight masks, one for each state.
use Rattle.std.specs.Prelude.{◌≡◌, true, cond, List, ℕ, ◌<◌, ltb, get_or}
use Rattle.sets.specs.Tests.{Set}
use Rattle.sets.specs.Masks.{bit, mask}
use Rattle.sets.specs.Lists.{tabulate}
use Rattle.theory.specs.Rule.{Rule}
use Rattle.theory.specs.Components.{leads, reaches}

-- f 0, .., f (n - 1), and 0 up to eight numbers
unfoldable pub table : ℕ → (ℕ → ℕ) → List ℕ
unfolding tabulate
table n f = tabulate 8 (λ q. cond (ltb q n) (f q) 0) 0

-- for each state, the mask of the states that it leads to in one step
abbrev pub successors_of : Rule → List ℕ
successors_of r = table r.n (λ q. mask r.n (leads r q))

-- for each state, the mask of the states that it leads to over some number of steps, zero included
abbrev pub closures_of : Rule → List ℕ
closures_of r = table r.n (λ q. mask r.n (reaches r q))

-- r is the least mask that holds q and, with each of its states, the states in that state's mask
pub record LeastClosed (es : List ℕ) (q r : ℕ) : Type 0 where
  pub holds : bit r q ≡ true
  pub closed : (p t : ℕ) → p < 8 → t < 8 → bit r p ≡ true → bit (get_or es p 0) t ≡ true → bit r t ≡ true
  pub least : (X : Set) → X q ≡ true → ((p t : ℕ) → p < 8 → t < 8 → X p ≡ true → bit (get_or es p 0) t ≡ true → X t ≡ true) → (t : ℕ) → t < 8 → bit r t ≡ true → X t ≡ true
