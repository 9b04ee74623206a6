-- Where it is told, for each state and step, that the rule accepts or that it rejects, the states from which it accepts are certified sets.
use mathlib.Core.Path.{◌≡◌, refl, sym, ap, ◌∙◌}
use mathlib.Core.Logic.{◌⊎◌, ⊎_elim, by_cases}
use mathlib.Core.Bool.{Bool, true, false, not}
use mathlib.Core.List.{List, Memᴰ}
use Prim.Native.Nat.{ℕ, zero, suc, ◌+◌, ◌≤◌, ◌<◌}
use native.Mathlib.Omega.{arith}
use native.Mathlib.Decide.{dec_lt}
use lib.Dec.{eqb}
use borrow.Author.Tests.{eqb-true}
use Rattle.sets.specs.Masks.{bit}
use Rattle.sets.specs.Tests.{Set}
use Rattle.sets.proofs.Bools.{bif, clash, and_i, not_t}
use Rattle.sets.proofs.Members.{inside-at}
use Rattle.theory.specs.Automaton.{Automaton}
use Rattle.theory.specs.Core.{is_open, mix}
use Rattle.theory.specs.Layered.{Layered}
use Rattle.theory.specs.Rule.{satisfies}
use Rattle.theory.specs.Sequence.{Reaches, here, on, Leaves, to_each, to_members, AcceptsAt, RejectsAt}
use Rattle.theory_laws.proofs.Certified.{discharged, Certified}
use Rattle.theory_laws.proofs.PlanOfSet.{chosen}
use Rattle.theory_laws.proofs.Pursuit.{open-kind, mix-in, mix-out, settled-kind}
use Rattle.theory_laws.proofs.Satisfies.{open_in, meets}
use Rattle.theory_laws.proofs.SetOfPlan.{miss}
use Rattle.endless_spec.proofs.Graphs.{path-on, never_both}

-- a clause inside a set
satisfied-by : (n : ℕ) (X : Set) (cs : List ℕ) (c : ℕ) → Memᴰ c cs → ((r : ℕ) → r < n → bit c r ≡ true → X r ≡ true) → satisfies n X cs ≡ true
satisfied-by n X cs c m h = bif (satisfies n X cs) (λ t. t) (λ t. let (r, l, b, e) = miss n X cs c m t in clash (h r l b) e)

-- a member of each clause outside a set
unsatisfied-by : (n : ℕ) (X : Set) (cs : List ℕ) → ((c : ℕ) → Memᴰ c cs → (r : ℕ) × (r < n) × (bit c r ≡ true) × (X r ≡ false)) → satisfies n X cs ≡ false
unsatisfied-by n X cs h =
    bif (satisfies n X cs) (λ t. let (m, k) = chosen n X cs t in let (r, l, b, e) = h _ m in clash (inside-at n X _ k r l b) e) (λ t. t)

module _ (A : Automaton) (w : ℕ → ℕ) (a x : ℕ) where
  -- what is reached is accepted, by the same plan, and so for rejection
  pub accepts-on : (P : AcceptsAt A w a x) (q i : ℕ) → Reaches (to_each A w P.pick) a x q i → AcceptsAt A w q i
  accepts-on P q i c = record { pick = P.pick; valid = λ p j d. P.valid p j (path-on _ c d); leaves = λ p j d. P.leaves p j (path-on _ c d) }

  pub rejects-on : (R : RejectsAt A w a x) (q i : ℕ) → Reaches (to_members A w R.member) a x q i → RejectsAt A w q i
  rejects-on R q i c = record { member = R.member; valid = λ p j d. R.valid p j (path-on _ c d); leaves = λ p j d. R.leaves p j (path-on _ c d) }

module _ (A : Automaton) (H : Layered A) (w : ℕ → ℕ) (told : (q i : ℕ) → q < A.n → AcceptsAt A w q i ⊎ RejectsAt A w q i) where
  record Known (i q : ℕ) (b : Bool) : Type 0 where
    accepts : q < A.n → b ≡ true → AcceptsAt A w q i
    rejects : q < A.n → b ≡ false → RejectsAt A w q i
    none : A.n ≤ q → b ≡ false

  known : (i q : ℕ) → (b : Bool) × Known i q b
  known i q =
      by_cases (dec_lt q A.n)
      (λ l. ⊎_elim
      (λ P. (true, record { accepts = λ k e. P; rejects = λ k e. clash refl e; none = λ k. absurd (omega arith) }))
      (λ R. (false, record { accepts = λ k e. clash e refl; rejects = λ k e. R; none = λ k. refl }))
      (told q i l))
      (λ l. (false, record { accepts = λ k. absurd (l k); rejects = λ k. absurd (l k); none = λ k. refl }))

  -- the states from which it accepts
  pub accepted_set : ℕ → Set
  accepted_set i q = (known i q).0

  pub accepted-trim : (i q : ℕ) → A.n ≤ q → accepted_set i q ≡ false
  unfolding accepted_set
  accepted-trim i q l = (known i q).1.none l

  in-set : (i q : ℕ) → q < A.n → AcceptsAt A w q i → accepted_set i q ≡ true
  unfolding accepted_set
  in-set i q l P = bif (known i q).0 (λ t. t) (λ t. absurd (never_both A H w q i P ((known i q).1.rejects l t) l))

  out-set : (i q : ℕ) → q < A.n → RejectsAt A w q i → accepted_set i q ≡ false
  unfolding accepted_set
  out-set i q l R = bif (known i q).0 (λ t. absurd (never_both A H w q i ((known i q).1.accepts l t) R l)) (λ t. t)

  -- a graph of kind k, as Plans has kinds, along the sets
  record Along (k : Bool) (E : ℕ → ℕ → ℕ → Type 0) (a x : ℕ) : Type 0 where
    low : (q i : ℕ) → Reaches E a x q i → q < A.n
    shown : (q i : ℕ) → Reaches E a x q i → open_in k (accepted_set i) q ≡ true
    suffice : (q i : ℕ) → Reaches E a x q i → (X : Set) → ((r : ℕ) → r < A.n → E q i r → X r ≡ true) → meets k A.n X (A.entry q (w i)) ≡ true

  -- a state that leaves its component within d steps is discharged within d
  module _ (k : Bool) (E : ℕ → ℕ → ℕ → Type 0) (a x : ℕ) (G : Along k E a x) (kind : A.accepting a ≡ k) (L : Leaves E A a x) where
    discharges : (d q i : ℕ) → Reaches E a x q i → A.component q ≡ A.component a → x + L.steps ≤ i + d → discharged A suc w accepted_set i d q ≡ true
    unfolding discharged
    discharges zero q i c s l = absurd (L.left q i c (omega arith) s)
    discharges (suc d) q i c s l =
        let e = A.entry q (w i) in
        let D = discharged A suc w accepted_set (suc i) d in
        let z = H.pure q a (G.low q i c) (G.low a x here) s ∙ kind in
        and_i (open-kind A k (accepted_set i) q z ∙ G.shown q i c)
        (settled-kind A k (accepted_set (suc i)) D q e z
        ∙ G.suffice q i c (mix A q (open_in k (accepted_set (suc i))) D) (λ r m f.
        let b = on r (suc i) c f refl in
        bif (eqb (A.component r) (A.component q))
        (λ t. mix-in A q _ _ r t ∙ discharges d r (suc i) b (eqb-true _ _ t ∙ s) (omega arith))
        (λ t. mix-out A q _ _ r t ∙ G.shown r (suc i) b)))

  accepts-along : (a x : ℕ) → a < A.n → (P : AcceptsAt A w a x) → Along false (to_each A w P.pick) a x
  accepts-along a x l P = record {
    low = λ q i c. below q i c;
    shown = λ q i c. in-set i q (below q i c) (accepts-on A w a x P q i c);
    suffice = λ q i c X h. satisfied-by A.n X _ (P.pick q i) (P.valid q i c) (λ r m b. h r m (m, b));
  }
    where
      below : (q i : ℕ) → Reaches (to_each A w P.pick) a x q i → q < A.n
      below q i here = l
      below q i (on r j c e s) = e.0

  rejects-along : (a x : ℕ) → a < A.n → (R : RejectsAt A w a x) → Along true (to_members A w R.member) a x
  rejects-along a x l R = record {
    low = λ q i c. below q i c;
    shown = λ q i c. ap not (out-set i q (below q i c) (rejects-on A w a x R q i c));
    suffice = λ q i c X h. ap not (unsatisfied-by A.n (λ p. not (X p)) _ (λ d m. let (k, b) = R.valid q i c d m in (R.member q i d, k, b, ap not (h (R.member q i d) k (d, m, refl)))));
  }
    where
      below : (q i : ℕ) → Reaches (to_members A w R.member) a x q i → q < A.n
      below q i here = l
      below q i (on {q = p} {i = m} r j c e s) = let (d, k, f) = e in rw f (R.valid p m c d k).0

  finite : (i q : ℕ) → q < A.n → is_open A (accepted_set i) q ≡ true → (d : ℕ) × (discharged A suc w accepted_set i d q ≡ true)
  unfolding accepted_set
  finite i q l o =
      bif (A.accepting q)
      (λ t. let R = (known i q).1.rejects l (not_t _ (sym (open-kind A true (accepted_set i) q t) ∙ o)) in
      let L = R.leaves q i here t in (L.steps, discharges true _ q i (rejects-along q i l R) t L L.steps q i here refl (omega arith)))
      (λ t. let P = (known i q).1.accepts l (sym (open-kind A false (accepted_set i) q t) ∙ o) in
      let L = P.leaves q i here t in (L.steps, discharges false _ q i (accepts-along q i l P) t L L.steps q i here refl (omega arith)))

  exact : (i q : ℕ) → q < A.n → accepted_set i q ≡ satisfies A.n (accepted_set (suc i)) (A.entry q (w i))
  unfolding accepted_set
  exact i q l =
      bif (known i q).0
      (λ t. let P = (known i q).1.accepts l t in
      t ∙ sym (satisfied-by A.n (accepted_set (suc i)) _ (P.pick q i) (P.valid q i here)
      (λ r m b. in-set (suc i) r m (accepts-on A w q i P r (suc i) (on r (suc i) here (m, b) refl)))))
      (λ t. let R = (known i q).1.rejects l t in
      t ∙ sym (unsatisfied-by A.n (accepted_set (suc i)) _ (λ c m. let (k, b) = R.valid q i here c m in
      let r = R.member q i c in
      (r, k, b, out-set (suc i) r k (rejects-on A w q i R r (suc i) (on r (suc i) here (c, m, refl) refl))))))

  pub told-certified : Certified A suc w accepted_set
  told-certified = record { exact = exact; finite = finite }
