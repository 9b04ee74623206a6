-- Certified sets tell the truth of every endless sequence: a state is in the set exactly if the rule accepts from there, and outside exactly if it rejects.
use mathlib.Core.Path.{◌≡◌, refl, sym, ap, ◌∙◌}
use mathlib.Core.Logic.{◌↔◌, ◌⊎◌, inl, inr, ⊎_elim}
use mathlib.Core.Bool.{Bool, true, false, ◌&&◌, not, cond}
use mathlib.Core.List.{Memᴰ}
use Prim.Native.Nat.{ℕ, suc, ◌+◌, ◌-◌, ◌≤◌, ◌<◌}
use native.Mathlib.Omega.{arith}
use lib.Dec.{eqb}
use borrow.Author.Tests.{leb-true, le-leb, eqb-true, eq-eqb}
use Rattle.sets.specs.Masks.{bit, exclusive}
use Rattle.sets.specs.Tests.{Set, first}
use Rattle.sets.proofs.Bools.{bif, and_i, and_l, and_r, not_t, not_f}
use Rattle.sets.proofs.Members.{inside-at}
use Rattle.sets.proofs.Tests.{first-at, first-le}
use Rattle.theory.specs.Automaton.{Automaton}
use Rattle.theory.specs.Core.{is_open, mix}
use Rattle.theory.specs.Layered.{Layered}
use Rattle.theory.specs.Sequence.{Reaches, here, on, Leaves, to_each, to_members, AcceptsAt, RejectsAt}
use Rattle.theory_laws.proofs.Certified.{discharged, Certified}
use Rattle.theory_laws.proofs.Distance.{distance, distance-leb, distance-pos}
use Rattle.theory_laws.proofs.PlanOfSet.{choose, chosen}
use Rattle.theory_laws.proofs.Pursuit.{open-kind, mix-in, mix-out, settled-kind, discharged-open, discharged-settled}
use Rattle.theory_laws.proofs.Satisfies.{open_in, meets, meets-open}
use Rattle.theory_laws.proofs.SetOfPlan.{miss}
use Rattle.endless_spec.proofs.Branches.{of_kinds}
use Rattle.endless_spec.proofs.Graphs.{never_both}

kind-own : (k b : Bool) → b ≡ k → exclusive k b ≡ false
kind-own true b e = rw e
kind-own false b e = e

kind-other : (k b : Bool) → b ≡ not k → exclusive k b ≡ true
kind-other true b e = rw e
kind-other false b e = e

-- the kind k of the components that a graph leaves: false for one that accepts, along states of the sets; true for one that rejects, along states outside
module _ (A : Automaton) (H : Layered A) (w : ℕ → ℕ) (S : ℕ → Set) (C : Certified A suc w S) (k : Bool) where
  abbrev δ : ℕ → ℕ → ℕ
  δ = distance A suc w S C

  -- in the component of a state of kind k, those that are nearer
  abbrev nearer : ℕ → ℕ → Set
  nearer q i = mix A q (open_in k (S (suc i))) (discharged A suc w S (suc i) (δ i q - 1))

  -- the states that the clause, or the members of the clauses, are chosen from
  aim : ℕ → ℕ → Set
  aim q i = cond (exclusive k (A.accepting q)) (open_in k (S (suc i))) (nearer q i)

  aim-own : (q i : ℕ) → A.accepting q ≡ k → aim q i ≡ nearer q i
  unfolding aim
  aim-own q i a = ap (λ (b : Bool). cond b (open_in k (S (suc i))) (nearer q i)) (kind-own k _ a)

  aim-other : (q i : ℕ) → A.accepting q ≡ not k → aim q i ≡ open_in k (S (suc i))
  unfolding aim
  aim-other q i a = ap (λ (b : Bool). cond b (open_in k (S (suc i))) (nearer q i)) (kind-other k _ a)

  record Good (q i : ℕ) : Type 0 where
    below : q < A.n
    shown : open_in k (S i) q ≡ true

  good-open : (q i : ℕ) → Good q i → A.accepting q ≡ k → is_open A (S i) q ≡ true
  good-open q i g a = open-kind A k (S i) q a ∙ g.shown

  -- they suffice
  aim-meets : (q i : ℕ) → Good q i → meets k A.n (aim q i) (A.entry q (w i)) ≡ true
  aim-meets q i g =
      let e = A.entry q (w i) in
      ⊎_elim
      (λ a.
      let o = good-open q i g a in
      let h = distance-pos A suc w S C i q g.below o in
      let x : suc (δ i q - 1) ≡ δ i q = omega arith in
      let t : discharged A suc w S i (suc (δ i q - 1)) q ≡ true
      = rw x (sym (distance-leb A suc w S C i q g.below o (δ i q)) ∙ le-leb (δ i q) (δ i q) (omega arith)) in
      rw (aim-own q i a) (sym (settled-kind A k (S (suc i)) _ q e a) ∙ discharged-settled A suc w S i (δ i q - 1) q t))
      (λ a. rw (aim-other q i a) (meets-open k A.n (S (suc i)) e ∙ ap (exclusive k) (sym (C.exact i q g.below)) ∙ g.shown))
      (of_kinds k (A.accepting q))

  module _ (q i r : ℕ) (g : Good q i) (l : r < A.n) (h : aim q i r ≡ true) where
    -- a state of the component is nearer
    near : A.accepting q ≡ k → A.component r ≡ A.component q → (open_in k (S (suc i)) r ≡ true) × (δ (suc i) r < δ i q)
    near a c =
        let t : discharged A suc w S (suc i) (δ i q - 1) r ≡ true = sym (mix-in A q _ _ r (eq-eqb _ _ c)) ∙ sym (ap (λ (f : Set). f r) (aim-own q i a)) ∙ h in
        let o = discharged-open A suc w S (suc i) (δ i q - 1) r t in
        let n = leb-true (δ (suc i) r) (δ i q - 1) (distance-leb A suc w S C (suc i) r l o (δ i q - 1) ∙ t) in
        let p = distance-pos A suc w S C i q g.below (good-open q i g a) in
        (sym (open-kind A k (S (suc i)) r (H.pure r q l g.below c ∙ a)) ∙ o, omega arith)

    -- and what they are chosen from is shown
    good-next : Good r (suc i)
    good-next = record {
      below = l;
      shown = ⊎_elim
          (λ a. bif (eqb (A.component r) (A.component q)) (λ c. (near a (eqb-true _ _ c)).0) (λ c. sym (mix-out A q _ _ r c) ∙ sym (ap (λ (f : Set). f r) (aim-own q i a)) ∙ h))
          (λ a. sym (ap (λ (f : Set). f r) (aim-other q i a)) ∙ h)
          (of_kinds k (A.accepting q));
    }

  -- a graph along states so chosen
  record Chosen (q i r : ℕ) : Type 0 where
    low : r < A.n
    aimed : aim q i r ≡ true
    falls : (A.component r ≡ A.component q) ⊎ (H.height r < H.height q)

  module _ (E : ℕ → ℕ → ℕ → Type 0) (chosen_by : (q i r : ℕ) → Good q i → E q i r → Chosen q i r) where
    reaches-good : (a x : ℕ) → Good a x → (q i : ℕ) → Reaches E a x q i → Good q i
    reaches-good a x g q i here = g
    reaches-good a x g q i (on {q = p} {i = j} r m c e s) =
        let d = reaches-good a x g p j c in let h = chosen_by p j r d e in rw s (good-next p j r d h.low h.aimed)

    module _ (q i : ℕ) (g : Good q i) (a : A.accepting q ≡ k) where
      Within : ℕ → ℕ → Type 0
      Within r j = (H.height r < H.height q) ⊎ ((A.component r ≡ A.component q) × (j + δ j r ≤ i + δ i q))

      within_on : (p j r : ℕ) → Good p j → Within p j → E p j r → Within r (suc j)
      unfolding Within
      within_on p j r d h e =
          let c = chosen_by p j r d e in
          ⊎_elim
          (λ lt. inl (⊎_elim (λ s. let f = H.level r p c.low d.below s in omega arith) (λ m. omega arith) c.falls))
          (λ s. ⊎_elim
          (λ t. let n = near p j r d c.low c.aimed (H.pure p q d.below g.below s.0 ∙ a) t in inr (t ∙ s.0, omega (arith, s.1, n.1)))
          (λ m. let f = H.level p q d.below g.below s.0 in inl (omega arith))
          c.falls)
          h

      along : (r j : ℕ) → Reaches E q i r j → Within r j
      unfolding Within
      along r j here = inr (refl, omega arith)
      along r j (on {q = p} {i = m} s n c e t) = rw t (within_on p m s (reaches-good q i g p m c) (along p m c) e)

      -- the distance is the number of steps
      leaves_in : Leaves E A q i
      unfolding Within
      leaves_in = record {
        steps = δ i q;
        left = λ r j c l s.
            let d = reaches-good q i g r j c in
            let p = distance-pos A suc w S C j r d.below (good-open r j d (H.pure r q d.below g.below s ∙ a)) in
            let f = H.level r q d.below g.below s in
            ⊎_elim (λ lt. omega arith) (λ t. omega (arith, t.1)) (along r j c);
      }

-- ---- the plans

module _ (A : Automaton) (H : Layered A) (w : ℕ → ℕ) (S : ℕ → Set) (C : Certified A suc w S) where
  -- the first clause inside
  pick : ℕ → ℕ → ℕ
  pick q i = choose A.n (aim A H w S C false q i) (A.entry q (w i))

  picked : (q i : ℕ) → Good A H w S C false q i → Memᴰ (pick q i) (A.entry q (w i)) × ((r : ℕ) → r < A.n → bit (pick q i) r ≡ true → aim A H w S C false q i r ≡ true)
  unfolding pick
  picked q i g = let (m, t) = chosen A.n (aim A H w S C false q i) (A.entry q (w i)) (aim-meets A H w S C false q i g) in (m, inside-at A.n _ _ t)

  by-pick : (q i r : ℕ) → Good A H w S C false q i → to_each A w pick q i r → Chosen A H w S C false q i r
  by-pick q i r g e = let (m, t) = picked q i g in record { low = e.0; aimed = t r e.0 e.1; falls = H.down q (w i) (pick q i) r g.below e.0 m e.1 }

  pub accepts-in : (q i : ℕ) → q < A.n → S i q ≡ true → AcceptsAt A w q i
  accepts-in q i l t =
      let g : Good A H w S C false q i = record { below = l; shown = t } in
      let good = reaches-good A H w S C false (to_each A w pick) by-pick q i g in
      record {
        pick = pick;
        valid = λ p j c. (picked p j (good p j c)).0;
        leaves = λ p j c a. leaves_in A H w S C false (to_each A w pick) by-pick p j (good p j c) a;
      }

  -- the first member of a clause outside
  member : ℕ → ℕ → ℕ → ℕ
  member q i c = first A.n (λ r. bit c r && aim A H w S C true q i r) 0

  membered : (q i : ℕ) → Good A H w S C true q i → (c : ℕ) → Memᴰ c (A.entry q (w i))
      → (member q i c < A.n) × (bit c (member q i c) ≡ true) × (aim A H w S C true q i (member q i c) ≡ true)
  unfolding member
  membered q i g c m =
      let f : Set = λ r. bit c r && aim A H w S C true q i r in
      let (r, l, b, t) = miss A.n (λ r. not (aim A H w S C true q i r)) (A.entry q (w i)) c m (not_t _ (aim-meets A H w S C true q i g)) in
      let h : f r ≡ true = and_i b (not_f _ t) in
      let y = first-at A.n f 0 r (omega arith) (omega arith) h in
      let z = first-le A.n f 0 r (omega arith) h in
      (omega arith, and_l (bit c (first A.n f 0)) _ y, and_r (bit c (first A.n f 0)) _ y)

  by-member : (q i r : ℕ) → Good A H w S C true q i → to_members A w member q i r → Chosen A H w S C true q i r
  by-member q i r g e =
      let (c, m, s) = e in
      let (l, b, t) = membered q i g c m in
      rw s (record { low = l; aimed = t; falls = H.down q (w i) c (member q i c) g.below l m b })

  pub rejects-in : (q i : ℕ) → q < A.n → S i q ≡ false → RejectsAt A w q i
  rejects-in q i l t =
      let g : Good A H w S C true q i = record { below = l; shown = ap not t } in
      let good = reaches-good A H w S C true (to_members A w member) by-member q i g in
      record {
        member = member;
        valid = λ p j c d m. let (l, b, t) = membered p j (good p j c) d m in (l, b);
        leaves = λ p j c a. leaves_in A H w S C true (to_members A w member) by-member p j (good p j c) a;
      }

  -- a state is in the set exactly if the rule accepts from there, and outside exactly if it rejects
  pub in-iff : (q i : ℕ) → q < A.n → (S i q ≡ true) ↔ AcceptsAt A w q i
  in-iff q i l = (accepts-in q i l, λ P. bif (S i q) (λ t. t) (λ t. absurd (never_both A H w q i P (rejects-in q i l t) l)))

  pub out-iff : (q i : ℕ) → q < A.n → (S i q ≡ false) ↔ RejectsAt A w q i
  out-iff q i l = (rejects-in q i l, λ R. bif (S i q) (λ t. absurd (never_both A H w q i (accepts-in q i l t) R l)) (λ t. t))
