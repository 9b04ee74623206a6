-- An accepted endless sequence has an accepted word with a cycle that begins as it does, as far as one likes.
use mathlib.Core.Path.{◌≡◌, refl, ap, ◌∙◌}
use mathlib.Core.List.{List, ◌∷◌, ◌++◌}
use Prim.Native.Nat.{ℕ, zero, suc, ◌+◌, ◌-◌, ◌^◌, ◌≤◌, ◌<◌}
use native.Mathlib.Omega.{arith}
use native.Mathlib.Nat.{zero-add, add-zero}
use lib.ListN.{take}
use Rattle.sets.specs.Lists.{tabulate}
use Rattle.theory.specs.Automaton.{Automaton, automaton}
use Rattle.theory.specs.Passing.{Passing}
use Rattle.theory.specs.Plan.{AcceptsWord}
use Rattle.theory.specs.Rule.{Rule}
use Rattle.theory.specs.Sequence.{AcceptsSequence}
use Rattle.theory.specs.Word.{WordOver, place}
use Rattle.theory_laws.proofs.Folding.{lead_of, cycle_of, folded-word}
use Rattle.theory_laws.proofs.Layers.{layered}
use Rattle.graph_walks.proofs.Closing.{comes_back}
use Rattle.endless_spec.proofs.Breakpoints.{reached, reached-lt, owing, none_owes}
use Rattle.endless_spec.proofs.Folds.{folded}
use Rattle.endless_spec.proofs.Truth.{word-iff}

take-tabulate : (i j : ℕ) (w : ℕ → ℕ) (x : ℕ) → i ≤ j → take i (tabulate j w x) ≡ tabulate i w x
unfolding tabulate
take-tabulate zero j w x l = refl
take-tabulate (suc i) zero w x l = absurd (omega arith)
take-tabulate (suc i) (suc j) w x l = ap (λ (v : List ℕ). w x ∷ v) (take-tabulate i j w (suc x) (omega arith))

tabulate-split : (m k : ℕ) (w : ℕ → ℕ) (x : ℕ) → tabulate (m + k) w x ≡ tabulate m w x ++ tabulate k w (x + m)
unfolding tabulate
tabulate-split zero k w x = rw (zero-add k, add-zero x) refl
tabulate-split (suc m) k w x =
    let e : suc m + k ≡ suc (m + k) = omega arith in
    let f : x + suc m ≡ suc x + m = omega arith in
    rw (e, f) (ap (λ (v : List ℕ). w x ∷ v) (tabulate-split m k w (suc x)))

module _ (r : Rule) (P : Passing r) (w : ℕ → ℕ) (known : (i : ℕ) → w i < r.s) (accepts : AcceptsSequence r w) where
  abbrev A : Automaton
  A = automaton r

  start : r.initial < A.n
  unfolding automaton
  start = P.formed.initial_state

  abbrev R : ℕ → ℕ
  R = reached A w r.initial start accepts

  -- from step m on, none owes
  abbrev Free : ℕ → ℕ → Type 0
  Free m j = (m ≤ j) × (owing A w r.initial start accepts j ≡ 0)

  again : (m i : ℕ) → (j : ℕ) × (i < j) × Free m j
  again m i = let (j, l, e) = none_owes A w r.initial start accepts (m + i) in (j, omega arith, (omega arith, e))

  -- the letters w 0 to w (m - 1) begin it
  pub begins-word : (m : ℕ) → (lead cycle : List ℕ) × WordOver r.s (tabulate m w 0 ++ lead) cycle × AcceptsWord r (tabulate m w 0 ++ lead) cycle
  unfolding place
  begins-word m =
      let (i, j, later, same, (mi, zi), (mj, zj)) = comes_back (2 ^ A.n) R (Free m) (again m) (λ j k. reached-lt A w r.initial start accepts j) in
      let split : i ≡ m + (i - m) = omega arith in
      let lead_is : lead_of w i j later ≡ tabulate m w 0 ++ tabulate (i - m) w (0 + m)
      = take-tabulate i j w 0 (omega arith) ∙ ap (λ (k : ℕ). tabulate k w 0) split ∙ tabulate-split m (i - m) w 0 in
      let W = folded-word w i j later r.s known in
      let F = folded A (layered r P) w r.initial start accepts i j later same zi zj in
      let K = (word-iff r P (lead_of w i j later) (cycle_of w i j later) W.repeats r.initial 0 P.formed.initial_state).0 F in
      (tabulate (i - m) w (0 + m), cycle_of w i j later, rw lead_is at W, rw lead_is at K)
