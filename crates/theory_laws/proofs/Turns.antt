-- Each component has its turn: k is 0 again and again, and after each 0 the next component is at work.
use mathlib.Core.Path.{◌≡◌, refl, ◌∙◌, ap}
use mathlib.Core.Logic.{by_cases}
use Prim.Native.Nat.{ℕ, zero, suc, ◌+◌, ◌-◌, ◌≤◌, ◌<◌}
use native.Mathlib.Omega.{arith}
use native.Mathlib.Decide.{ℕ_discrete}
use native.Mathlib.Nat.{add-zero, zero-add}
use Rattle.theory.specs.Automaton.{Automaton}
use Rattle.theory.specs.Core.{next_component_lem}
use Rattle.theory_laws.proofs.Cores.{next-below, next_last, next_low}

module _ (A : Automaton) (K k : ℕ → ℕ) (low : (i : ℕ) → K i < A.components) (stays : (i : ℕ) → (k i ≡ 0 → ⊥) → K (suc i) ≡ K i)
    (turns : (i : ℕ) → k i ≡ 0 → K (suc i) ≡ next_component_lem A (K i)) (again : (i : ℕ) → (j : ℕ) × (i < j) × (k j ≡ 0)) where
  -- a step from i on with k 0, after which C is at work
  Turn : ℕ → ℕ → Type 0
  Turn i C = (j : ℕ) × (i ≤ j) × (k j ≡ 0) × (K (suc j) ≡ C)

  -- where k is 0 next, the component has stayed
  first-zero : (t i j : ℕ) → j ≡ i + t → k j ≡ 0 → (h : ℕ) × (i ≤ h) × (k h ≡ 0) × (K h ≡ K i)
  first-zero zero i j x e = let y : j ≡ i = omega arith in (j, omega arith, e, ap K y)
  first-zero (suc t) i j x e =
      by_cases (ℕ_discrete (k i) 0) (λ z. (i, omega arith, z, refl))
      (λ z. let (h, l, f, s) = first-zero t (suc i) j (omega arith) e in (h, omega arith, f, s ∙ stays i z))

  turn-next : (i h C : ℕ) → i ≤ h → K h ≡ C → Turn i (next_component_lem A C)
  unfolding Turn
  turn-next i h C l c =
      let (j, b, e) = again h in
      let (g, m, f, s) = first-zero (j - h) h j (omega arith) e in
      (g, omega arith, f, turns g f ∙ ap (next_component_lem A) (s ∙ c))

  turn-after : (i C : ℕ) → Turn i C → Turn i (next_component_lem A C)
  unfolding Turn
  turn-after i C t = turn-next i (suc t.0) C (omega (arith, t.1)) t.3

  -- from the turn of C, the turn of C + t
  up : (i C t : ℕ) → C + t < A.components → Turn i C → Turn i (C + t)
  up i C zero h s = rw add-zero s
  up i C (suc t) h s =
      let x : C + suc t ≡ suc (C + t) = omega arith in
      rw (x, ← next-below A (C + t) (omega arith)) (turn-after i (C + t) (up i C t (omega arith) s))

  -- up to the last component, round to 0, and up to C
  pub turn-of : (i C : ℕ) → C < A.components → (j : ℕ) × (i ≤ j) × (k j ≡ 0) × (K (suc j) ≡ C)
  unfolding Turn
  turn-of i C h =
      let N = next_component_lem A (K i) in
      let b = next_low A (K i) (low i) in
      let x : suc (N + (A.components - suc N)) ≡ A.components = omega arith in
      let t = up i N (A.components - suc N) (omega arith) (turn-next i i (K i) (omega arith) refl) in
      let z : Turn i 0 = rw (next_last A (N + (A.components - suc N)) x) at (turn-after i _ t) in
      rw zero-add at (up i 0 C (omega arith) z)
