-- A run of macrostates accepts exactly if its cores spare each component again and again.
use mathlib.Core.Path.{◌≡◌, refl, sym, ◌∙◌, ap, subst}
use mathlib.Core.Logic.{◌↔◌, ◌⊎◌, inl, inr, ⊎_elim, by_cases}
use mathlib.Core.Bool.{true}
use Prim.Native.Nat.{ℕ, zero, suc, ◌+◌, ◌-◌, ◌≤◌, ◌<◌}
use native.Mathlib.Omega.{arith}
use native.Mathlib.Decide.{ℕ_discrete}
use borrow.Author.Tests.{eqb-true, eq-eqb}
use Rattle.sets.specs.Tests.{Set, count, one}
use Rattle.sets.proofs.Bools.{bif}
use Rattle.sets.proofs.Tests.{count-le, count-lt}
use Rattle.theory.specs.Automaton.{Automaton}
use Rattle.theory.specs.Layered.{Layered}
use Rattle.theory.specs.Code.{component_in, classes_in}
use Rattle.theory.specs.Macrostate.{is_accepting_lem, Goes}
use Rattle.theory_laws.proofs.Turns.{turn-of}
use Rattle.spare_spec.specs.Spare.{Steps, SparesAgain}
use Rattle.spare_spec.specs.SpareComputed.{spares}
use Rattle.stricter_laws.proofs.Steps.{classes_at, size_of, classes-size, unspared-some, no-class-spares, spares-iff}
use Rattle.stricter_laws.proofs.Steps.{left-low, above-grows, above-spared, full-stays}

-- a test that holds again and again holds as often as one likes
often : (f : Set) → ((i : ℕ) → (j : ℕ) × (i ≤ j) × (f j ≡ true)) → (m : ℕ) → (d : ℕ) × (m ≤ count d f)
often f h zero = (0, omega arith)
often f h (suc m) =
    let (d, l) = often f h m in
    let (j, k, t) = h d in
    let x = count-le d j f k in
    let y = count-lt j (suc j) f (omega arith) t in
    (suc j, omega arith)

-- k of at most the number of K's classes
abbrev pub Within : Automaton → ℕ → Type 0
Within A c = classes_in c ≤ classes_at A c (component_in c)

-- every step makes such a k
pub step-within : {A : Automaton} → Layered A → {c a d : ℕ} → Goes A c a d → Within A d
step-within H {c = c} {a = a} {d = d} G =
    by_cases (ℕ_discrete (classes_in c) 0)
    (λ z. let e = G.all z in omega arith)
    (λ z.
    let e = G.left z in
    let h = left-low H a c d G.level G.earlier (component_in c) (classes_in c) in
    rw (G.stays z) (omega arith))

-- until k is 0 each step that spares the component leaves a class more above k
pub above-one : {A : Automaton} → Layered A → {c a d : ℕ} → Goes A c a d → (classes_in c ≡ 0 → ⊥) → (classes_in d ≡ 0 → ⊥)
    → classes_at A c (component_in c) - classes_in c + one (spares A a c d (component_in c)) ≤ classes_at A d (component_in c) - classes_in d
above-one {A} H {c} {a} {d} G z y =
    let K = component_in c in
    let e = G.left z in
    bif (spares A a c d K)
    (λ t. let o : one (spares A a c d K) ≡ 1 = rw t in
    let g = above-spared H a c d G.level G.earlier K t (classes_in c) (omega arith) in omega arith)
    (λ t. let o : one (spares A a c d K) ≡ 0 = rw t in
    let g = above-grows H a c d G.level G.earlier K (classes_in c) (omega arith) in omega arith)

module _ {A : Automaton} (H : Layered A) {w c : ℕ → ℕ} (R : Steps A w c) where
  abbrev K : ℕ → ℕ
  K i = component_in (c i)

  abbrev k : ℕ → ℕ
  k i = classes_in (c i)

  -- how many classes component C has at i
  abbrev classes : ℕ → ℕ → ℕ
  classes i C = classes_at A (c i) C

  -- the step from i spares C
  abbrev pub spared : ℕ → Set
  spared C i = spares A (w i) (c i) (c (suc i)) C

  -- ---- from sparing to accepting

  -- k is 0 at one of the steps from i to j
  pub record ZeroBy (i j : ℕ) : Type 0 where
    pub at : ℕ
    pub from : i ≤ at
    pub upto : at ≤ j
    pub zero-k : k at ≡ 0

  -- after d steps to j it was not, and as many classes more are above k as steps between have spared the component
  record Grown (i d j : ℕ) : Type 0 where
    stays : K j ≡ K i
    nonzero : k j ≡ 0 → ⊥
    within : Within A (c j)
    grown : classes i (K i) - k i + count d (λ x. spared (K i) (i + x)) ≤ classes j (K i) - k j

  grown-next : {i d j : ℕ} → j ≡ i + d → Grown i d j → ZeroBy i (suc j) ⊎ Grown i (suc d) (suc j)
  unfolding count
  grown-next {i = i} {d = d} {j = j} e g =
      by_cases (ℕ_discrete (k (suc j)) 0)
      (λ z. inl (record { at = suc j; from = omega arith; upto = omega arith; zero-k = z }))
      (λ z.
      let a = rw g.stays at (above-one H (R.steps j) g.nonzero z) in
      let b : one (spared (K i) j) ≡ one (spared (K i) (i + d)) = ap (λ (x : ℕ). one (spared (K i) x)) e in
      let h = g.grown in
      inr (record {
        stays = (R.steps j).stays g.nonzero ∙ g.stays;
        nonzero = z;
        within = step-within H (R.steps j);
        grown = omega arith;
      }))

  walk : (d i j : ℕ) → j ≡ i + d → Within A (c i) → ZeroBy i j ⊎ Grown i d j
  unfolding count
  walk zero i j e v =
      let x : i ≡ j = omega arith in
      by_cases (ℕ_discrete (k i) 0)
      (λ z. inl (record { at = i; from = omega arith; upto = omega arith; zero-k = z }))
      (λ z. inr (subst (Grown i 0) x (record { stays = refl; nonzero = z; within = v; grown = omega arith })))
  walk (suc d) i zero e v = absurd (omega arith)
  walk (suc d) i (suc j) e v =
      ⊎_elim
      (λ z. inl (record { at = z.at; from = z.from; upto = omega (arith, z.upto); zero-k = z.zero-k }))
      (grown-next (omega arith)) (walk d i j (omega arith) v)

  -- k is 0 within as many spared steps as K has states
  pub zero-within : (i d : ℕ) → Within A (c i) → size_of A (K i) ≤ count d (λ x. spared (K i) (i + x)) → ZeroBy i (i + d)
  zero-within i d v h =
      ⊎_elim
      (λ z. z)
      (λ g.
      let a = classes-size (c (i + d)) (R.macrostate (i + d)).core (K i) in
      let b : k (i + d) ≤ classes (i + d) (K i) = rw g.stays at g.within in
      let n = g.nonzero in let e = g.grown in
      absurd (omega arith))
      (walk d i (i + d) refl v)

  from-sparing : SparesAgain A w c → (i : ℕ) → (j : ℕ) × (i < j) × (k j ≡ 0)
  from-sparing s i =
      let v = step-within H (R.steps i) in
      let (d, l) = often (λ x. spared (K (suc i)) (suc i + x)) again (size_of A (K (suc i))) in
      let z = zero-within (suc i) d v l in
      (z.at, z.from, z.zero-k)
    where
      again : (x : ℕ) → (y : ℕ) × (x ≤ y) × (spared (K (suc i)) (suc i + y) ≡ true)
      again x =
          let (j, l, t) = s (K (suc i)) (R.macrostate (suc i)).component (suc i + x) in
          let e : suc i + (j - suc i) ≡ j = omega arith in
          (j - suc i, omega arith, rw e ((spares-iff H (w j) (c j) (c (suc j)) (R.steps j).level (R.steps j).earlier (K (suc i))).1 t))

  -- ---- from accepting to sparing

  module _ (again : (i : ℕ) → (j : ℕ) × (i < j) × (k j ≡ 0)) where
    -- a step that spares C
    Spared : ℕ → ℕ → Type 0
    Spared i C = (j : ℕ) × (i ≤ j) × (spared C j ≡ true)

    -- where k is full, and 0 later on, a step between spares the component
    full-spared : (C t i j : ℕ) → j ≡ i + t → k j ≡ 0 → K i ≡ C → (k i ≡ 0 → ⊥) → classes i C ≤ k i → Spared i C
    unfolding Spared
    full-spared C zero i j x e v z f = let y : j ≡ i = omega arith in absurd (z (ap k (sym y) ∙ e))
    full-spared C (suc t) i j x e v z f =
        bif (spared C i)
        (λ s. (i, omega arith, s))
        (λ s.
        let p = unspared-some H (w i) (c i) (c (suc i)) (R.steps i).level (R.steps i).earlier C s in
        let g = full-stays H (w i) (c i) (c (suc i)) (R.steps i).level (R.steps i).earlier C s (k i) f in
        let l = rw v at ((R.steps i).left z) in
        let (y, m, r) = full-spared C t (suc i) j (omega arith) e ((R.steps i).stays z ∙ v) (λ n. omega arith) (omega arith) in
        (y, omega arith, r))

    -- in its turn a component is spared
    find-spared : (C : ℕ) → C < A.components → (i : ℕ) → Spared i C
    unfolding Spared
    find-spared C h i =
        let (p, l, z, e) = turn-of A K k (λ j. (R.macrostate j).component) (λ j. (R.steps j).stays) (λ j. (R.steps j).next) again i C h in
        let f : k (suc p) ≡ classes (suc p) C = (R.steps p).all z ∙ ap (classes (suc p)) e in
        by_cases (ℕ_discrete (k (suc p)) 0)
        (λ z. (p, l, no-class-spares H (w p) (c p) (c (suc p)) (R.steps p).level (R.steps p).earlier C (sym f ∙ z)))
        (λ z.
        let (j, m, a) = again (suc p) in
        let (y, b, t) = full-spared C (j - suc p) (suc p) j (omega arith) a e z (omega arith) in
        (y, omega arith, t))

    to-sparing : SparesAgain A w c
    unfolding Spared
    to-sparing C h i =
        let (j, l, t) = find-spared C h i in
        (j, l, (spares-iff H (w j) (c j) (c (suc j)) (R.steps j).level (R.steps j).earlier C).0 t)

  -- a run of macrostates accepts exactly if its cores spare each component again and again
  pub accepts-iff : ((i : ℕ) → (j : ℕ) × (i < j) × (is_accepting_lem (c j) ≡ true)) ↔ SparesAgain A w c
  unfolding is_accepting_lem
  accepts-iff =
      (λ a. to-sparing (λ i. let (j, l, t) = a i in (j, l, eqb-true _ 0 t)), λ s i. let (j, l, e) = from-sparing s i in (j, l, eq-eqb _ 0 e))
