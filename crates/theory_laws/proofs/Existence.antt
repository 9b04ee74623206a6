-- Certified sets have ranks, and an accepting run goes along them; each open state may be discharged within a number of steps of its own.
use mathlib.Core.Path.{◌≡◌, refl, sym, ◌∙◌, ap}
use mathlib.Core.Logic.{by_cases}
use mathlib.Core.Bool.{Bool, true, false, ◌&&◌, cond, and-false}
use Prim.Native.Nat.{ℕ, zero, suc, ◌+◌, ◌-◌, ◌≤◌, ◌<◌}
use native.Mathlib.Omega.{arith}
use native.Mathlib.Nat.{le_trans}
use native.Mathlib.Decide.{ℕ_discrete}
use lib.Dec.{eqb, leb}
use borrow.Author.Tests.{leb-true, leb-false, le-leb, lt-leb, eq-eqb, ne_eqb}
use Rattle.sets.specs.Tests.{Set, count, one, largest}
use Rattle.sets.proofs.Bools.{bif, and_l, and_r}
use Rattle.sets.proofs.Tests.{count-le, some-none, largest-ge, largest-le}
use Rattle.theory.specs.Automaton.{Automaton}
use Rattle.theory.specs.Layered.{Layered}
use Rattle.theory.specs.Core.{is_open, settled, settled_up_to, open_of_lem, next_component_lem}
use Rattle.theory.specs.CoreComputed.{taken, rank_of}
use Rattle.theory.specs.Rule.{satisfies}
use Rattle.theory_laws.proofs.Certified.{discharged, Certified, Backed, Run}
use Rattle.theory_laws.proofs.Classes.{open-component, open-state, rank-max, rank-order, rank-upto}
use Rattle.theory_laws.proofs.Distance.{distance, distance-leb, distance-pos}
use Rattle.theory_laws.proofs.Pursuit.{open-kind, discharged-shut}
use Rattle.theory_laws.proofs.Ranks.{lev_at, lev-test}
use Rattle.theory_laws.proofs.Settled.{settled-ext}

module _ (A : Automaton) (H : Layered A) (B : ℕ) (room : A.n ≤ B) (w : ℕ → ℕ) (S : ℕ → Set)
    (C : Certified A suc w S) where
  exact : (i q : ℕ) → q < A.n → S i q ≡ satisfies A.n (S (suc i)) (A.entry q (w i))
  exact = C.exact

  abbrev pub δ : ℕ → ℕ → ℕ
  δ = distance A suc w S C

  δ-leb : (i q : ℕ) → q < A.n → is_open A (S i) q ≡ true → (d : ℕ) → leb (δ i q) d ≡ discharged A suc w S i d q
  δ-leb = distance-leb A suc w S C

  δ-pos : (i q : ℕ) → q < A.n → is_open A (S i) q ≡ true → 0 < δ i q
  δ-pos = distance-pos A suc w S C

  -- the ranks: the distances, closed up
  pub rk : ℕ → ℕ → ℕ
  rk i q = rank_of A (S i) (δ i) q

  rk-bound : (i q : ℕ) → q < A.n → rk i q ≤ B
  unfolding rk
  rk-bound i q l = le_trans (rank-max A (S i) (δ i) q) room

  -- how many distances up to d component K named at i
  abbrev upto : ℕ → ℕ → ℕ → ℕ
  upto i K d = count (suc d) (taken A (S i) (δ i) K)

  upto-0 : (i K : ℕ) → upto i K 0 ≡ 0
  unfolding count taken
  upto-0 i K = ap (λ (b : Bool). 0 + one b) (some-none A.n _ (λ p l. bif (is_open A (S i) p)
      (λ o. let h = δ-pos i p l o in rw (ne_eqb (δ i p) 0 (λ e. omega arith), and-false (is_open A (S i) p), and-false (eqb (A.component p) K)))
      (λ o. rw (o, and-false (eqb (A.component p) K)))))

  upto-suc : (i K d : ℕ) → upto i K (suc d) ≤ suc (upto i K d)
  unfolding count
  upto-suc i K d = bif (taken A (S i) (δ i) K (suc d)) (λ t. let x : one (taken A (S i) (δ i) K (suc d)) ≡ 1 = rw t in omega arith)
      (λ t. let x : one (taken A (S i) (δ i) K (suc d)) ≡ 0 = rw t in omega arith)

  -- levels against distances
  star : (i q : ℕ) → q < A.n → is_open A (S i) q ≡ true → (d : ℕ) → leb (lev_at A B w S rk i q) (upto (suc i) (A.component q) d) ≡ leb (δ i q) (suc d)
  unfolding discharged settled_up_to rk
  star i q l o d =
      lev-test A H B w S exact rk rk-bound i q l o (upto (suc i) (A.component q) d)
      ∙ settled-ext A _ _ (discharged A suc w S (suc i) d) q _ (λ p m s. bif (is_open A (S (suc i)) p) (λ t. inside p m s t) (λ t. rw t (sym (discharged-shut A suc w S (suc i) d p t))))
      ∙ sym (ap (λ (b : Bool). b && settled A (S (suc i)) (discharged A suc w S (suc i) d) q (A.entry q (w i))) o)
      ∙ sym (δ-leb i q l o (suc d))
    where
      inside : (p : ℕ) → p < A.n → A.component p ≡ A.component q → is_open A (S (suc i)) p ≡ true →
          is_open A (S (suc i)) p && leb (rk (suc i) p) (upto (suc i) (A.component q) d) ≡ discharged A suc w S (suc i) d p
      inside p m s t =
          ap (λ (b : Bool). b && leb (rk (suc i) p) (upto (suc i) (A.component q) d)) t
          ∙ ap (λ (K : ℕ). leb (rk (suc i) p) (upto (suc i) K d)) (sym s)
          ∙ rank-upto A (S (suc i)) (δ (suc i)) p m t d
          ∙ δ-leb (suc i) p m t d

  -- a level is the count of distances below
  lev-is : (i q : ℕ) → q < A.n → is_open A (S i) q ≡ true → (d : ℕ) → δ i q ≡ suc d → lev_at A B w S rk i q ≡ upto (suc i) (A.component q) d
  lev-is i q l o zero e =
      let a = leb-true (lev_at A B w S rk i q) (upto (suc i) (A.component q) 0) (star i q l o 0 ∙ le-leb (δ i q) 1 (omega arith)) in
      omega (arith, upto-0 (suc i) (A.component q))
  lev-is i q l o (suc d) e =
      let a = leb-true (lev_at A B w S rk i q) (upto (suc i) (A.component q) (suc d)) (star i q l o (suc d) ∙ le-leb (δ i q) (suc (suc d)) (omega arith)) in
      let b = leb-false (lev_at A B w S rk i q) (upto (suc i) (A.component q) d) (star i q l o d ∙ lt-leb (δ i q) (suc d) (omega arith)) in
      omega (arith, upto-suc (suc i) (A.component q) d)

  -- so levels order the states as distances do
  alike : (i p q : ℕ) → p < A.n → q < A.n → A.component p ≡ A.component q → is_open A (S i) p ≡ true → is_open A (S i) q ≡ true
      → leb (δ i p) (δ i q) ≡ leb (lev_at A B w S rk i p) (lev_at A B w S rk i q)
  alike i p q m l c t o =
      let d = δ i q - 1 in
      let e : δ i q ≡ suc d = omega (arith, δ-pos i q l o) in
      ap (leb (δ i p)) e ∙ sym (star i p m t d) ∙ ap (λ (K : ℕ). leb (lev_at A B w S rk i p) (upto (suc i) K d)) c ∙ ap (leb (lev_at A B w S rk i p)) (sym (lev-is i q l o d e))

  pub backed : Backed A B w S rk
  unfolding rk
  backed = record { exact = exact; ranked = λ i q l. rank-order A (S i) (δ i) (lev_at A B w S rk i) (λ p r m k c t o. alike i p r m k c t o) q l; bound = rk-bound }

  -- ---- the component at work and what is left of it
  pub record Work : Type 0 where
    pub component : ℕ
    pub left : ℕ

  abbrev turned : ℕ → ℕ → Work
  turned i C = record { component = C; left = largest A.n (open_of_lem A (S (suc i)) C) (rk (suc i)) }

  pub after : ℕ → Work → Work
  after i x = cond (eqb x.left 0) (turned i (next_component_lem A x.component))
      (record { component = x.component; left = largest A.n (λ q. open_of_lem A (S i) x.component q && leb (rk i q) x.left) (lev_at A B w S rk i) })

  pub work : ℕ → Work
  work zero = record { component = 0; left = 0 }
  work (suc i) = after i (work i)

  after_turn : (i : ℕ) (x : Work) → x.left ≡ 0 → after i x ≡ turned i (next_component_lem A x.component)
  unfolding after
  after_turn i x e = rw (eq-eqb x.left 0 e)

  after-stay : (i : ℕ) (x : Work) → (x.left ≡ 0 → ⊥) → after i x ≡ record {
    component = x.component;
    left = largest A.n (λ q. open_of_lem A (S i) x.component q && leb (rk i q) x.left) (lev_at A B w S rk i);
  }
  unfolding after
  after-stay i x e = rw (ne_eqb x.left 0 e)

  -- distances, ranks and levels against one another
  lev-low : (i q e : ℕ) → q < A.n → is_open A (S i) q ≡ true → rk i q ≤ upto i (A.component q) (suc e) → lev_at A B w S rk i q ≤ upto (suc i) (A.component q) e
  unfolding rk
  lev-low i q e l o h = leb-true _ _ (star i q l o e ∙ sym (rank-upto A (S i) (δ i) q l o (suc e)) ∙ le-leb (rk i q) (upto i (A.component q) (suc e)) h)

  -- what is left after a step at the same component
  stay-low : (i e : ℕ) (x : Work) → x.left ≤ upto i x.component (suc e)
      → largest A.n (λ q. open_of_lem A (S i) x.component q && leb (rk i q) x.left) (lev_at A B w S rk i) ≤ upto (suc i) x.component e
  stay-low i e x h =
      largest-le A.n _ _ _ (λ q l t.
      let a = and_l (open_of_lem A (S i) x.component q) _ t in
      let c = open-component A (S i) x.component q a in
      let b = leb-true (rk i q) x.left (and_r (open_of_lem A (S i) x.component q) _ t) in
      rw c at (lev-low i q e l (open-state A (S i) x.component q a) (rw c (le_trans b h))))

  -- all classes of component K at i lie within the largest of its distances
  turn_low : (i K : ℕ) → largest A.n (open_of_lem A (S i) K) (rk i) ≤ upto i K (largest A.n (open_of_lem A (S i) K) (δ i))
  unfolding rk
  turn_low i K =
      let M = largest A.n (open_of_lem A (S i) K) (δ i) in
      largest-le A.n _ _ _ (λ q l t. let o = open-state A (S i) K q t in
      rw (open-component A (S i) K q t) at (leb-true (rk i q) (upto i (A.component q) M)
      (rank-upto A (S i) (δ i) q l o M ∙ le-leb (δ i q) M (largest-ge A.n (open_of_lem A (S i) K) (δ i) q l t))))

  -- what is left lies within some distance
  low : (i : ℕ) → (e : ℕ) × ((work i).left ≤ upto i (work i).component e)
  unfolding work
  low zero = (0, omega arith)
  low (suc i) =
      by_cases (ℕ_discrete (work i).left 0)
      (λ z. let K = next_component_lem A (work i).component in
      (largest A.n (open_of_lem A (S (suc i)) K) (δ (suc i)), rw (after_turn i (work i) z) (turn_low (suc i) K)))
      (λ z. let (e, l) = low i in (e, rw (after-stay i (work i) z) (stay-low i e (work i) (le_trans l (count-le (suc e) (suc (suc e)) _ (omega arith))))))

  zero_in : (e i : ℕ) → (work i).left ≤ upto i (work i).component e → (j : ℕ) × (i ≤ j) × ((work j).left ≡ 0)
  unfolding work
  zero_in zero i h = let z = upto-0 i (work i).component in (i, omega arith, omega arith)
  zero_in (suc e) i h =
      by_cases (ℕ_discrete (work i).left 0) (λ z. (i, omega arith, z))
      (λ z. let f = zero_in e (suc i) (rw (after-stay i (work i) z) (stay-low i e (work i) h)) in
      (f.0, omega (arith, f.1), f.2))

  rk-trim : ((i q : ℕ) → A.n ≤ q → S i q ≡ false) → (i q : ℕ) → A.n ≤ q → rk i q ≡ 0
  unfolding rk rank_of
  rk-trim trim i q l = ap (λ (b : Bool). cond b (count (suc (δ i q)) (taken A (S i) (δ i) (A.component q))) 0) (open-kind A false (S i) q (H.plain q l) ∙ trim i q l)

  pub run : ((i q : ℕ) → A.n ≤ q → S i q ≡ false) → Run A B w S rk (λ i. (work i).component) (λ i. (work i).left)
  unfolding work
  run trim = record {
    backed = backed;
    trim-S = trim;
    trim-r = rk-trim trim;
    start-K = refl;
    start-k = refl;
    turn-K = λ i z. ap (λ (x : Work). x.component) (after_turn i (work i) z);
    turn-k = λ i z. rw (after_turn i (work i) z) refl;
    stay-K = λ i z. ap (λ (x : Work). x.component) (after-stay i (work i) z);
    stay-k = λ i z. ap (λ (x : Work). x.left) (after-stay i (work i) z);
    accepts = λ i. let (e, l) = low (suc i) in zero_in e (suc i) l;
  }
