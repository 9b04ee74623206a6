-- The macrostates of a table that are reachable from the initial ones over some letters, and what it means that there are none.
use Rattle.std.specs.Prelude.{◌≡◌, true, ℕ, ◌<◌, length, get_or}
use mathlib.Core.List.{List, [], ◌∷◌, ◌++◌, Memᴰ}
use Rattle.theory.specs.Macrostate.{is_initial_lem}
use Rattle.theory.specs.Plan.{AcceptsWord}
use Rattle.theory.specs.Rule.{Rule}
use Rattle.theory.specs.Run.{Leads}
use Rattle.theory.specs.Word.{WordOver}

-- the transitions lead from number x over the letters, one a step, to number y
pub data Walks (transitions : List ℕ) : ℕ → List ℕ → ℕ → Type 0 where
  here : {x : ℕ} → Walks transitions x [] x
  step : {x z y : ℕ} {l : List ℕ} (t a : ℕ) → Memᴰ t transitions → Leads t x a z → Walks transitions z l y → Walks transitions x (a ∷ l) y

-- 02: "the set of M-104 macrostates reachable from the initial ones over the letters held": y is one of them
pub record ReachedOver (r : Rule) (codes transitions letters : List ℕ) (y : ℕ) : Type 0 where
  pub start : ℕ
  pub listed : start < length codes
  pub initial : is_initial_lem r (get_or codes start 0) ≡ true
  pub walk : Walks transitions start letters y

-- an endless sequence over s letters, repeating or not, that begins with some letters: w gives the letter of each step
pub record Continues (s : ℕ) (letters : List ℕ) (w : ℕ → ℕ) : Type 0 where
  pub known : (i : ℕ) → w i < s
  pub begins : (i : ℕ) → i < length letters → w i ≡ get_or letters i 0

-- 02: a "continuation which ends in a cycle", of some letters, that the rule accepts: these letters begin the word's lead-in
pub record Accepted (r : Rule) (letters : List ℕ) : Type 0 where
  pub lead : List ℕ
  pub cycle : List ℕ
  pub word : WordOver r.s (letters ++ lead) cycle
  pub accepts : AcceptsWord r (letters ++ lead) cycle
