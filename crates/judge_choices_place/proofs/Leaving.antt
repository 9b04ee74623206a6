-- The distance by plans is the number of rounds after which the pair is discharged, and a plan whose clauses come nearer leaves within it.
use mathlib.Core.Path.{◌≡◌, refl, sym, ◌∙◌, ap}
use mathlib.Core.Logic.{⊎_elim}
use mathlib.Core.Bool.{true, false}
use mathlib.Core.List.{[], List, ◌∷◌, Memᴰ}
use Prim.Native.Nat.{ℕ, zero, suc, ◌+◌, ◌-◌, ◌≤◌, ◌<◌}
use native.Mathlib.Omega.{arith}
use lib.Dec.{eqb}
use borrow.Author.Tests.{leb-true, le-leb, eqb-true}
use Rattle.sets.specs.Tests.{Set}
use Rattle.sets.specs.Masks.{bit, inside}
use Rattle.sets.proofs.Bools.{bif, and_i, or_l, or_r}
use Rattle.sets.proofs.Members.{inside-at, inside-all}
use Rattle.theory.specs.Automaton.{Automaton}
use Rattle.theory.specs.Layered.{Layered}
use Rattle.theory.specs.Core.{is_open}
use Rattle.theory.specs.Plan.{Reach, Accepts}
use Rattle.theory.specs.Plan.Reach.{here, on}
use Rattle.theory.specs.Rule.{satisfies}
use Rattle.theory_laws.proofs.Certified.{discharged}
use Rattle.theory_laws.proofs.Pursuit.{open-kind, mix-in, mix-out, settled-kind}
use Rattle.theory_laws.proofs.PlanOfSet.{δ, δ-leb, δ-pos, aim, Good, Aimed, nearer, good-on, lower, aimed-valid, aimed-fair, aim-nearer, aim-true}
use Rattle.judge_choices_spec.specs.Distance as dist
use Rattle.judge_choices_spec.specs.Distance.{After, Left, Distance}
use Rattle.judge_choices_spec.specs.Choice.{Suits}

-- a clause of an entry inside a set satisfies it
pub satisfies-in : (n : ℕ) (X : Set) (cs : List ℕ) (c : ℕ) → Memᴰ c cs → inside n X c ≡ true → satisfies n X cs ≡ true
unfolding satisfies
satisfies-in n X [] c x'' e = elim x'' [ ]
satisfies-in n X (d ∷ cs) c (Memᴰ.head x) e = or_l (inside n X d) (satisfies n X cs) (ap (inside n X) (sym x) ∙ e)
satisfies-in n X (d ∷ cs) c (Memᴰ.tail k) e = or_r (inside n X d) (satisfies n X cs) (satisfies-in n X cs c k e)

module _ (A : Automaton) (nx w : ℕ → ℕ) where
  -- ---- a plan, begun one step later
  module _ (pick : ℕ → ℕ → ℕ) (q p r : ℕ) (l : r < A.n) (b : bit (pick q p) r ≡ true) where
    reach-before : (x y : ℕ) → Reach A nx w pick r (nx p) x y → Reach A nx w pick q p x y
    reach-before x y here = on r (nx p) here l b refl
    reach-before x y (on {q = q'} {p = p'} s z c m k e) = on s z (reach-before q' p' c) m k e

    after-before : (d x y : ℕ) → After A nx w pick r (nx p) d x y → After A nx w pick q p (suc d) x y
    after-before d x y dist.here = dist.on r (nx p) dist.here l b refl
    after-before d x y (dist.on {d = e} {q = q'} {p = p'} s z c m k i) = dist.on s z (after-before e q' p' c) m k i

  -- a plan that accepts from a pair accepts from each pair that it reaches in a step
  later : (q p : ℕ) (P : Accepts A nx w q p) (r : ℕ) → r < A.n → bit (P.pick q p) r ≡ true → Accepts A nx w r (nx p)
  later q p P r l b = record {
    pick = P.pick;
    valid = λ x y c. P.valid x y (reach-before P.pick q p r l b x y c);
    fair = λ x y c a s m k d. P.fair x y (reach-before P.pick q p r l b x y c) a s m k d;
  }

module _ (A : Automaton) (H : Layered A) (L : ℕ) (nx w : ℕ → ℕ) (stays : (p : ℕ) → p < L → nx p < L) (S : ℕ → Set)
    (exact : (p q : ℕ) → p < L → q < A.n → S p q ≡ satisfies A.n (S (nx p)) (A.entry q (w p)))
    (N : ℕ) (near : (p q : ℕ) → q < A.n → is_open A (S p) q ≡ true → discharged A nx w S p N q ≡ true)
    (sound : (q p : ℕ) → q < A.n → p < L → Accepts A nx w q p → S p q ≡ true) where
  -- a plan that has left after d steps discharges within d rounds
  pub left-discharged : (d q p : ℕ) → q < A.n → p < L → A.accepting q ≡ false → (P : Accepts A nx w q p) → Left A nx w P.pick q p d → discharged A nx w S p d q ≡ true
  unfolding discharged later
  left-discharged zero q p l k a P f = absurd (f q p dist.here refl)
  left-discharged (suc d) q p l k a P f =
      and_i (open-kind A false (S p) q a ∙ sound q p l k P)
      (settled-kind A false (S (nx p)) (discharged A nx w S (nx p) d) q _ a
      ∙ satisfies-in A.n _ _ (P.pick q p) (P.valid q p here) (inside-all A.n _ (P.pick q p) (λ r m b.
      bif (eqb (A.component r) (A.component q))
      (λ t. let c = eqb-true _ _ t in
      mix-in A q _ _ r t ∙ left-discharged d r (nx p) m (stays p k) (H.pure r q m l c ∙ a) (later A nx w q p P r m b)
      (λ x y z e. f x y (after-before A nx w P.pick q p r m b d x y z) (e ∙ c)))
      (λ t. mix-out A q _ _ r t ∙ sound r (nx p) m (stays p k) (later A nx w q p P r m b)))))

  abbrev delta : ℕ → ℕ → ℕ
  delta = δ A H L nx w stays S exact N near

  abbrev True : ℕ → ℕ → Type 0
  True = Good A H L nx w stays S exact N near

  rejecting-open : (q p : ℕ) → True q p → A.accepting q ≡ false → is_open A (S p) q ≡ true
  rejecting-open q p g a = open-kind A false (S p) q a ∙ g.true-in

  module _ (pick : ℕ → ℕ → ℕ) (P : Aimed A H L nx w stays S exact N near pick) where
    module _ (q p : ℕ) (g : True q p) (a : A.accepting q ≡ false) where
      -- along the plan: true, no higher, and in the component nearer by as many steps
      record Along (d x y : ℕ) : Type 0 where
        good : True x y
        height : H.height x ≤ H.height q
        nearer-by : A.component x ≡ A.component q → delta y x + d ≤ delta p q

      along-on : (d x y r : ℕ) → Along d x y → r < A.n → bit (pick x y) r ≡ true → Along (suc d) r (nx y)
      along-on d x y r h l b =
          let low = lower A H L nx w stays S exact N near pick P x y r h.good l b in
          record {
            good = good-on A H L nx w stays S exact N near pick P x y r h.good l b;
            height = ⊎_elim (λ c. let e = H.level r x l h.good.below c in let k = h.height in omega arith) (λ k. let j = h.height in omega arith) low;
            nearer-by = λ e.
                let top = H.level r q l g.below e in
                let j = h.height in
                ⊎_elim
                (λ c. let same : A.component x ≡ A.component q = sym c ∙ e in
                let n = (nearer A H L nx w stays S exact N near pick P x y r h.good l b (H.pure x q h.good.below g.below same ∙ a) c).1 in
                let k = h.nearer-by same in
                omega arith)
                (λ k. omega arith)
                low;
          }

      along : (d x y : ℕ) → After A nx w pick q p d x y → Along d x y
      along d x y dist.here = record { good = g; height = omega arith; nearer-by = λ e. omega arith }
      along d x y (dist.on {d = e} {q = q'} {p = p'} r z c l b i) = rw i (along-on e q' p' r (along e q' p' c) l b)

      -- the plan has left after as many steps as the distance says
      pub leaves-in-time : Left A nx w pick q p (delta p q)
      leaves-in-time x y c e =
          let h = along (delta p q) x y c in
          let z = δ-pos A H L nx w stays S exact N near y x h.good.below (rejecting-open x y h.good (H.pure x q h.good.below g.below e ∙ a)) in
          omega (arith, h.nearer-by e)

    unfoldable pub plan-of : (q p : ℕ) → True q p → Accepts A nx w q p
    plan-of q p g = record {
      pick = pick;
      valid = aimed-valid A H L nx w stays S exact N near pick P q p g;
      fair = aimed-fair A H L nx w stays S exact N near pick P q p g;
    }

    -- the rounds count the distance
    pub distance : (q p : ℕ) → True q p → A.accepting q ≡ false → Distance A nx w q p (delta p q)
    unfolding plan-of
    distance q p g a = record {
      leaves = record { plan = plan-of q p g; left = leaves-in-time q p g a };
      least = λ e v. leb-true (delta p q) e (δ-leb A H L nx w stays S exact N near p q g.below (rejecting-open q p g a) e
          ∙ left-discharged e q p g.below g.place a v.plan v.left);
    }

    one-distance : (q p : ℕ) → True q p → A.accepting q ≡ false → (d : ℕ) → Distance A nx w q p d → d ≡ delta p q
    one-distance q p g a d v = omega (arith, (distance q p g a).least d v.leaves, v.least (delta p q) (distance q p g a).leaves)

    -- a clause will do exactly if it is inside what the choice aims at
    module _ (q p : ℕ) (g : True q p) (c : ℕ) where
      abbrev aims : Set
      aims = aim A H L nx w stays S exact N near q p

      good-at : (r : ℕ) → r < A.n → S (nx p) r ≡ true → True r (nx p)
      good-at r l t = record { below = l; place = stays p g.place; true-in = t }

      pub inside-suits : inside A.n aims c ≡ true → Suits A nx w q p c
      inside-suits e = record {
        truths = λ r l b. plan-of r (nx p) (good-at r l (aim-true A H L nx w stays S exact N near q p r g l (inside-at A.n aims c e r l b)));
        nearer = λ a r l b s.
            let n = aim-nearer A H L nx w stays S exact N near q p r g l (inside-at A.n aims c e r l b) a s in
            record {
              here = delta p q;
              there = delta (nx p) r;
              from_here = distance q p g a;
              from_there = distance r (nx p) (good-at r l n.0) (H.pure r q l g.below s ∙ a);
              smaller = n.1;
            };
      }

      pub suits-inside : Suits A nx w q p c → inside A.n aims c ≡ true
      unfolding aim
      suits-inside v = inside-all A.n aims c (λ r l b.
          let t = sound r (nx p) l (stays p g.place) (v.truths r l b) in
          bif (A.accepting q) (λ a. rw (a, aim) t)
          (λ a. bif (eqb (A.component r) (A.component q))
          (λ s. let e = eqb-true _ _ s in
          let n = v.nearer a r l b e in
          let a' = H.pure r q l g.below e ∙ a in
          let y = one-distance r (nx p) (good-at r l t) a' n.there n.from_there in
          rw (a, aim) (mix-in A q _ _ r s ∙ sym (δ-leb A H L nx w stays S exact N near (nx p) r l (rejecting-open r (nx p) (good-at r l t) a') (delta p q - 1))
          ∙ le-leb (delta (nx p) r) (delta p q - 1) (omega (arith, n.smaller, one-distance q p g a n.here n.from_here))))
          (λ s. rw (a, aim) (mix-out A q _ _ r s ∙ t))))
