-- The transitions between listed keys, written into a slice one after the other.
use Rattle.std.specs.Prelude.{◌≡◌, Bool, List, ℕ, ◌/◌, ◌≤◌, ◌<◌, length, get_or}
use Rattle.theory.specs.Automaton.{Automaton}
use Rattle.codes.specs.Codes.{transition_of}
use Rattle.build_step_back.specs.Earlier.{core_of, back_of, onto_of_lem}
use Rattle.build_spec.specs.Appended.{Appended}
use Rattle.build_spec.specs.Chains.{key_at}
use Rattle.build_spec.specs.Keys.{Moved}

-- ---- what is written: the slice was xs with m elements in use, and is ys with r in use

-- y stands at a place from m up to r
abbrev pub Stands : ℕ → List ℕ → ℕ → ℕ → Type 0
Stands m ys r y = (p : ℕ) × (m ≤ p) × (p < r) × (get_or ys p 0 ≡ y)

-- r elements fit, and those from place m on are different
pub record Once (m : ℕ) (ys : List ℕ) (r : ℕ) : Type 0 where
  pub fits : r ≤ length ys
  pub once : (p q : ℕ) → m ≤ p → p < q → q < r → get_or ys p 0 ≡ get_or ys q 0 → ⊥

-- the m elements stay, and after them come the numbers of N, each once; or they are more than there is room for
abbrev pub Emitted : (ℕ → Type 0) → List ℕ → ℕ → List ℕ → ℕ → Bool → Type 0
Emitted N xs m ys r full = Appended (λ x. x) (Stands m ys r) (Once m ys r) N N xs m ys r full

-- ---- which transitions: the first n keys are numbered by their places

-- y is the transition over letter a from place p to that of the key that p's goes on to, if p's is a key of the earlier core
abbrev pub Crossing : ℕ → ℕ → (ℕ → ℕ) → ℕ → List ℕ → ℕ → ℕ → ℕ → Type 0
Crossing earlier core onto a keys n p y = (t : ℕ) × (t < n) × Moved earlier core onto (key_at keys p) (key_at keys t) × (y ≡ transition_of p a t)

-- from one of the places
abbrev pub Crossings : ℕ → ℕ → (ℕ → ℕ) → ℕ → List ℕ → ℕ → ℕ → Type 0
Crossings earlier core onto a keys n y = (p : ℕ) × (p < n) × Crossing earlier core onto a keys n p y

-- 01: "It goes over a letter to each core T whose earlier core is its own": the transitions over letter a into the core of the vector v
abbrev pub Over : Automaton → List ℕ → ℕ → ℕ → ℕ → ℕ → Type 0
Over A keys n v a y = Crossings (back_of A a v) (core_of A v) (onto_of_lem A a v) a keys n y

-- over one of s letters
abbrev pub Into : Automaton → ℕ → List ℕ → ℕ → ℕ → ℕ → Type 0
Into A s keys n v y = (a : ℕ) × (a < s) × Over A keys n v a y

-- the vector of the key at place q: the ranks of its core
abbrev pub vector_at : List ℕ → ℕ → ℕ
vector_at keys q = key_at keys q / 256 / 256

-- into the cores of the first j keys
abbrev pub Done : Automaton → ℕ → List ℕ → ℕ → ℕ → ℕ → Type 0
Done A s keys n j y = (q : ℕ) × (q < j) × Into A s keys n (vector_at keys q) y
