-- The sets of an accepting run are certified.
use mathlib.Core.Path.{◌≡◌, refl, sym, ◌∙◌, ap}
use mathlib.Core.Logic.{by_cases}
use mathlib.Core.Bool.{true, ◌&&◌}
use Prim.Native.Nat.{ℕ, zero, suc, ◌+◌, ◌-◌, ◌≤◌, ◌<◌}
use native.Mathlib.Omega.{arith}
use native.Mathlib.Decide.{ℕ_discrete}
use native.Mathlib.Nat.{add-zero}
use lib.Dec.{leb}
use borrow.Author.Tests.{leb-true, le-leb, eq-eqb}
use Rattle.sets.specs.Tests.{Set}
use Rattle.sets.proofs.Bools.{and_l, and_r, and_i}
use Rattle.sets.proofs.Tests.{largest-ge}
use Rattle.theory.specs.Automaton.{Automaton}
use Rattle.theory.specs.Layered.{Layered}
use Rattle.theory.specs.Core.{is_open, settled_up_to, open_of_lem}
use Rattle.theory_laws.proofs.Certified.{discharged, Certified, Run}
use Rattle.theory_laws.proofs.Cores.{next_low}
use Rattle.theory_laws.proofs.Ranks.{lev_at, lev-test, rank-pos}
use Rattle.theory_laws.proofs.Settled.{settled-mono}
use Rattle.theory_laws.proofs.Turns.{turn-of}
use Rattle.theory_laws.proofs.Levels.{open-settled}

module _ (A : Automaton) (H : Layered A) (B : ℕ) (w : ℕ → ℕ) (S : ℕ → Set) (r : ℕ → ℕ → ℕ) (K k : ℕ → ℕ) (run : Run A B w S r K k) where
  -- the open states of component C at i are discharged within d
  Clear : ℕ → ℕ → ℕ → Type 0
  Clear i d C = (q : ℕ) → q < A.n → A.component q ≡ C → is_open A (S i) q ≡ true → discharged A suc w S i d q ≡ true

  -- one step earlier
  earlier : (i d C : ℕ) → Clear (suc i) d C → Clear i (suc d) C
  unfolding Clear discharged
  earlier i d C h q l c o = and_i o (settled-mono A _ (is_open A (S (suc i))) _ q _ (λ p m s t. h p m (s ∙ c) t) (open-settled A H (w i) (S i) (S (suc i)) (run.backed.exact i) q l o))

  far-earlier : (t i d C : ℕ) → Clear (i + t) d C → (e : ℕ) × Clear i e C
  far-earlier zero i d C h = (d, rw add-zero at h)
  far-earlier (suc t) i d C h =
      let x : i + suc t ≡ suc i + t = omega arith in
      let f = far-earlier t (suc i) d C (rw x at h) in
      (suc f.0, earlier i f.0 C f.1)

  -- the classes that are left at i are discharged by the next accepting step
  Left : ℕ → ℕ → Type 0
  Left i d = (q : ℕ) → q < A.n → A.component q ≡ K i → is_open A (S i) q ≡ true → r i q ≤ k i → discharged A suc w S i d q ≡ true

  left-0 : (i : ℕ) → k i ≡ 0 → Left i 0
  unfolding Left
  left-0 i z q l c o h = let p = rank-pos A H B w S run.backed.exact r run.backed.bound run.backed.ranked i q l o in absurd (omega arith)

  left-suc : (i d : ℕ) → (k i ≡ 0 → ⊥) → Left (suc i) d → Left i (suc d)
  unfolding Left settled_up_to open_of_lem discharged
  left-suc i d nz f q l c o h =
      let low = largest-ge A.n (λ q. open_of_lem A (S i) (K i) q && leb (r i q) (k i)) (lev_at A B w S r i) q l (and_i (and_i (eq-eqb _ _ c) o) (le-leb _ _ h)) in
      let e = run.stay-k i nz in
      let pass : settled_up_to A (S (suc i)) (r (suc i)) q (A.entry q (w i)) (k (suc i)) ≡ true
      = sym (lev-test A H B w S run.backed.exact r run.backed.bound i q l o (k (suc i))) ∙ le-leb (lev_at A B w S r i q) (k (suc i)) (omega arith) in
      and_i o (settled-mono A _ _ _ q _
      (λ p m s t. f p m (s ∙ c ∙ sym (run.stay-K i nz)) (and_l (is_open A (S (suc i)) p) _ t) (leb-true _ _ (and_r (is_open A (S (suc i)) p) _ t))) pass)

  left-go : (t i : ℕ) → k (i + t) ≡ 0 → (d : ℕ) × Left i d
  left-go zero i e = (0, left-0 i (rw add-zero at e))
  left-go (suc t) i e =
      by_cases (ℕ_discrete (k i) 0) (λ z. (0, left-0 i z))
      (λ nz. let x : i + suc t ≡ suc i + t = omega arith in
      let f = left-go t (suc i) (rw x at e) in
      (suc f.0, left-suc i f.0 nz f.1))

  -- after an accepting step all of the new component is discharged
  turn : (i : ℕ) → k i ≡ 0 → (d : ℕ) × Clear (suc i) d (K (suc i))
  unfolding Clear Left open_of_lem
  turn i z =
      let a = run.accepts (suc i) in
      let x : suc i + (a.0 - suc i) ≡ a.0 = omega (arith, a.1) in
      let f = left-go (a.0 - suc i) (suc i) (ap k x ∙ a.2) in (
        f.0,
        λ q l c o. f.1 q l c o
            (let m = largest-ge A.n (open_of_lem A (S (suc i)) (K (suc i))) (r (suc i)) q l (and_i (eq-eqb _ _ c) o) in
            let e = run.turn-k i z in omega arith),
      )

  pub comp-below : (i : ℕ) → 0 < A.components → K i < A.components
  comp-below zero h = rw run.start-K h
  comp-below (suc i) h =
      by_cases (ℕ_discrete (k i) 0) (λ z. rw (run.turn-K i z) (next_low A (K i) (comp-below i h)))
      (λ nz. rw (run.stay-K i nz) (comp-below i h))

  -- every component is discharged from every step
  clear : (i C : ℕ) → C < A.components → (d : ℕ) × Clear i d C
  clear i C h =
      let (j, l, z, e) = turn-of A K k (λ x. comp-below x (omega arith)) run.stay-K run.turn-K run.accepts i C h in
      let t = turn j z in
      let x : suc j ≡ i + (suc j - i) = omega arith in
      far-earlier (suc j - i) i t.0 C (rw (e, x) at t.1)

  pub certified : Certified A suc w S
  unfolding Clear
  certified = record { exact = run.backed.exact; finite = λ i q l o. let c = clear i (A.component q) (H.few q l) in (c.0, c.1 q l refl o) }
