-- Keys: macrostates as they are gathered, the core first, so that the keys of one core stand together.
use Rattle.std.specs.Prelude.{◌≡◌, Bool, true, not, cond, List, ℕ, ◌+◌, ◌*◌, ◌/◌, ◌%◌, ◌^◌, ◌<◌, get_or}
use Rattle.sets.specs.Tests.{Set, every}
use Rattle.sets.specs.Masks.{bit}
use Rattle.theory.specs.Rule.{Rule}
use Rattle.theory.specs.Automaton.{Automaton, automaton}
use Rattle.build_cores.specs.Vectors.{Within}
use Rattle.build_cores.specs.Used.{gapless, caps_of}
use Rattle.build_cores.specs.Onward.{onward_in}
use Rattle.build_step_back.specs.Earlier.{core_of, back_of, onto_of_lem}
use Rattle.build_spec.specs.Chains.{key_at}
use Rattle.build_spec.specs.Growth.{After}

-- 01: "bits 0 to 7 S, four bits from 8 + 4 × q for the rank of q, 40 to 43 K, 44 to 47 k": a code is the pair K + 16 k above a core of 40 bits.
-- Its key is the core above the pair.
unfoldable pub key_of : ℕ → ℕ
key_of c = c % 2 ^ 40 * 256 + c / 2 ^ 40

unfoldable pub code_of : ℕ → ℕ
code_of y = y % 256 * 2 ^ 40 + y / 256

-- y is the key of a macrostate of R
abbrev pub KeyOf : (ℕ → Type 0) → ℕ → Type 0
KeyOf R y = (c : ℕ) × R c × (y ≡ key_of c)

-- the start condition: 01's "S holds the initial state", or where `holds` is false, that S lacks it
unfoldable pub start_of : Rule → Bool → Set
start_of r holds c = cond holds (bit c r.initial) (not (bit c r.initial))

-- each of the first n keys has the number of a component
abbrev pub Paired : ℕ → List ℕ → ℕ → Type 0
Paired components xs n = (p : ℕ) → p < n → key_at xs p % 16 < components

-- v is one of the vectors that are visited, and passes the test: the vector of a core (vector-cored and code-macrostate of build_spec/proofs/Link)
pub record Cored (parts : List ℕ) (components v : ℕ) : Type 0 where
  pub within : Within 8 v (caps_of parts components)
  pub passes : every components (λ c. gapless v (get_or parts c 0)) ≡ true

-- x is a key of the earlier core, y the key of the core with the pair that x goes on to
pub record Moved (earlier core : ℕ) (onto : ℕ → ℕ) (x y : ℕ) : Type 0 where
  pub from : x / 256 ≡ earlier
  pub to : y ≡ core * 256 + onto (x % 256)

-- 01: "It goes over a letter to each core T whose earlier core is its own": the key x goes over the letter a to y, a key of the core of the vector v
abbrev pub LeadsOver : Automaton → ℕ → ℕ → ℕ → ℕ → Type 0
LeadsOver A v a x y = Moved (back_of A a v) (core_of A v) (onto_of_lem A a v) x y

-- the step over the letter a into the core of the vector v. The numbers are those of the earlier core and of the core, and by the levels a pair
-- of K and k goes on as the automaton's does.
pub record Stepping (A : Automaton) (parts : List ℕ) (components v a earlier core : ℕ) (levels : List ℕ) : Type 0 where
  pub earlier_is : earlier ≡ back_of A a v
  pub core_is : core ≡ core_of A v
  pub onto_is : (pair : ℕ) → pair < 256 → pair % 16 < components → onward_in v parts components levels pair ≡ onto_of_lem A a v pair

-- over one of s letters
abbrev pub Leads : Automaton → ℕ → ℕ → ℕ → ℕ → Type 0
Leads A s v x y = (a : ℕ) × (a < s) × LeadsOver A v a x y

-- a key from place `from` up to place n goes over one of s letters to y, a key of the core of the vector v, which is visited
abbrev pub LeadsAt : Automaton → List ℕ → ℕ → ℕ → ℕ → ℕ → List ℕ → ℕ → ℕ → Type 0
LeadsAt A parts components s from n xs v y = Cored parts components v × After from n xs (Leads A s v) y

-- the key x goes over one of s letters to the key y
abbrev pub KeyEdge : Automaton → List ℕ → ℕ → ℕ → ℕ → ℕ → Type 0
KeyEdge A parts components s x y = (v : ℕ) × Cored parts components v × Leads A s v x y

-- 01: "It is initial if S holds the initial state, K is 0 and k is 0." The start condition holds at the core of the vector v, and y is its key with K 0 and k 0.
pub record StartKey (r : Rule) (holds : Bool) (v y : ℕ) : Type 0 where
  pub start : start_of r holds (core_of (automaton r) v) ≡ true
  pub key : y ≡ core_of (automaton r) v * 256

-- of a vector that is visited
abbrev pub StartsAt : Rule → List ℕ → ℕ → Bool → ℕ → ℕ → Type 0
StartsAt r parts components holds v y = Cored parts components v × StartKey r holds v y

-- y is the key of a macrostate where a run may begin
abbrev pub First : Rule → List ℕ → ℕ → Bool → ℕ → Type 0
First r parts components holds y = (v : ℕ) × StartsAt r parts components holds v y
