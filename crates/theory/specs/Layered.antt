-- What the proofs use of an automaton whose components are ordered; a rule that passes the checks has it (theory_laws/proofs/Layers).
use Rattle.std.specs.Prelude.{◌≡◌, ◌⊎◌, true, false, ℕ, ◌≤◌, ◌<◌}
use mathlib.Core.List.{Memᴰ}
use Rattle.sets.specs.Masks.{bit}
use Rattle.theory.specs.Automaton.{Automaton}

-- a height that falls along every step out of a component
pub record Layered (A : Automaton) : Type 0 where
  pub height : ℕ → ℕ
  pub down : (q a c p : ℕ) → q < A.n → p < A.n → Memᴰ c (A.entry q a) → bit c p ≡ true → (A.component p ≡ A.component q) ⊎ (height p < height q)
  pub pure : (p q : ℕ) → p < A.n → q < A.n → A.component p ≡ A.component q → A.accepting p ≡ A.accepting q
  pub top : ℕ
  pub tall : (q : ℕ) → q < A.n → height q < top
  pub edge : (q : ℕ) → A.n ≤ q → top ≤ height q
  pub plain : (q : ℕ) → A.n ≤ q → A.accepting q ≡ false
  pub few : (q : ℕ) → q < A.n → A.component q < A.components
  pub level : (p q : ℕ) → p < A.n → q < A.n → A.component p ≡ A.component q → height p ≡ height q
