-- Ways along the transitions of a table, and accepting runs that go round one for ever.
use Rattle.std.specs.Prelude.{◌≡◌, true, ℕ, ◌<◌, length, get_or}
use mathlib.Core.List.{List, [], ◌∷◌, ◌++◌, Memᴰ}
use Rattle.sets.specs.Tests.{Set}
use Rattle.theory.specs.Macrostate.{begun, is_accepting_lem}
use Rattle.theory.specs.Run.{Leads}

-- Way x w y: from number x over the letters w to number y, by a listed transition for each letter
pub data Way (transitions : List ℕ) : ℕ → List ℕ → ℕ → Type 0 where
  stay : {x : ℕ} → Way transitions x [] x
  go : {x y z a : ℕ} {w : List ℕ} (t : ℕ) → Memᴰ t transitions → Leads t x a y → Way transitions y w z → Way transitions x (a ∷ w) z

-- From a number that may begin over the lead-in to `turn`, and from there over the cycle back to it, through an accepting number.
-- The cycle repeated for ever is an accepting run (`AcceptingRun` of theory/specs/Run) over the word.
pub record Lasso (codes transitions : List ℕ) (start : Set) (lead cycle : List ℕ) : Type 0 where
  pub first : ℕ
  pub within : first < length codes
  pub begins : begun start (get_or codes first 0) ≡ true
  pub turn : ℕ
  pub there : Way transitions first lead turn
  pub met : ℕ
  pub before : List ℕ
  pub after : List ℕ
  pub parts : cycle ≡ before ++ after
  pub onto : Way transitions turn before met
  pub accepts : is_accepting_lem (get_or codes met 0) ≡ true
  pub back : Way transitions met after turn
