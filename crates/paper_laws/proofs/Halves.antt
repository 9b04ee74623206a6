-- The steps of the rejecting and of the accepting components together are 01's step.
use mathlib.Core.Path.{◌≡◌, refl, sym, ◌∙◌, ap}
use mathlib.Core.Logic.{◌↔◌}
use mathlib.Core.Bool.{Bool, true, false, ◌&&◌, cond}
use mathlib.Core.List.{List}
use Prim.Native.Nat.{ℕ, ◌≤◌, ◌<◌}
use lib.Dec.{leb}
use Rattle.sets.specs.Tests.{Set}
use Rattle.sets.specs.Masks.{exclusive}
use Rattle.theory.specs.Automaton.{Automaton}
use Rattle.theory.specs.Layered.{Layered}
use Rattle.theory.specs.Rule.{satisfies}
use Rattle.theory.specs.Core.{Least, is_open, mix, rejecting_settled, accepting_settled, settled_up_to, Earlier}
use Rattle.theory_laws.proofs.Pursuit.{open-kind, open_at, open_of, settled-kind}
use Rattle.theory_laws.proofs.Satisfies.{open_in, meets}
use Rattle.theory_laws.proofs.Settled.{settled-ext}
use Rattle.paper_spec.specs.Halves.{EarlierRejecting, EarlierAccepting, both_halves}

-- tests that agree have the same least number
pub least-ext : (f g : Set) → ((j : ℕ) → f j ≡ g j) → (j : ℕ) → Least f j → Least g j
least-ext f g e j x = record { holds = sym (e j) ∙ x.holds; least = λ i h. x.least i (e i ∙ h) }

module _ (A : Automaton) where
  -- 01's step as far as the components of kind k go, k true for the accepting ones: `exclusive k true` is what the set says of an open state
  pub record EarlierOf (k : Bool) (a : ℕ) (S : Set) (r : ℕ → ℕ) (T : Set) (t : ℕ → ℕ) (l : ℕ → ℕ) : Type 0 where
    pub exact : (q : ℕ) → q < A.n → A.accepting q ≡ k → S q ≡ satisfies A.n T (A.entry q a)
    pub level : (q : ℕ) → q < A.n → A.accepting q ≡ k → S q ≡ exclusive k true
        → Least (λ j. meets k A.n (mix A q (open_in k T) (λ p. open_in k T p && leb (t p) j)) (A.entry q a)) (l q)
    pub ordered : (q p : ℕ) → q < A.n → p < A.n → A.component q ≡ A.component p → A.accepting q ≡ k → S q ≡ exclusive k true → S p ≡ exclusive k true
        → (r q ≤ r p) ↔ (l q ≤ l p)
    pub closed : (q : ℕ) → q < A.n → A.accepting q ≡ k → S q ≡ exclusive k false → r q ≡ 0
    pub ranked : (q : ℕ) → q < A.n → A.accepting q ≡ k → S q ≡ exclusive k true → 1 ≤ r q
    pub gapless : (q j : ℕ) → q < A.n → A.accepting q ≡ k → S q ≡ exclusive k true → 1 ≤ j → j ≤ r q
        → (p : ℕ) × (p < A.n) × (A.component p ≡ A.component q) × (S p ≡ exclusive k true) × (r p ≡ j)

  module _ {a : ℕ} {S : Set} {r : ℕ → ℕ} {T : Set} {t l : ℕ → ℕ} where
    pub to-rejecting : EarlierOf false a S r T t l → EarlierRejecting A a S r T t l
    unfolding rejecting_settled
    to-rejecting E = record { exact = E.exact; level = E.level; ordered = E.ordered; closed = E.closed; ranked = E.ranked; gapless = E.gapless }

    pub of-rejecting : EarlierRejecting A a S r T t l → EarlierOf false a S r T t l
    unfolding rejecting_settled
    of-rejecting E = record { exact = E.exact; level = E.level; ordered = E.ordered; closed = E.closed; ranked = E.ranked; gapless = E.gapless }

    pub to-accepting : EarlierOf true a S r T t l → EarlierAccepting A a S r T t l
    unfolding accepting_settled
    to-accepting E = record { exact = E.exact; level = E.level; ordered = E.ordered; closed = E.closed; ranked = E.ranked; gapless = E.gapless }

    pub of-accepting : EarlierAccepting A a S r T t l → EarlierOf true a S r T t l
    unfolding accepting_settled
    of-accepting E = record { exact = E.exact; level = E.level; ordered = E.ordered; closed = E.closed; ranked = E.ranked; gapless = E.gapless }

module _ (A : Automaton) (H : Layered A) where
  -- 01's test of a level, in a component of kind k
  pub test-kind : (k : Bool) (T : Set) (t : ℕ → ℕ) (q : ℕ) (e : List ℕ) → q < A.n → A.accepting q ≡ k
      → (j : ℕ) → settled_up_to A T t q e j ≡ meets k A.n (mix A q (open_in k T) (λ p. open_in k T p && leb (t p) j)) e
  unfolding settled_up_to
  test-kind k T t q e m x j =
      settled-ext A T (λ p. is_open A T p && leb (t p) j) (λ p. open_in k T p && leb (t p) j) q e
      (λ p h c. ap (λ (b : Bool). b && leb (t p) j) (open-kind A k T p (H.pure p q h m c ∙ x)))
      ∙ settled-kind A k T (λ p. open_in k T p && leb (t p) j) q e x

  module _ (a : ℕ) (S : Set) (r : ℕ → ℕ) (T : Set) (t : ℕ → ℕ) (l : ℕ → ℕ) where
    -- ---- from 01's step to its halves

    pub half : (k : Bool) → Earlier A a S r T t l → EarlierOf A k a S r T t l
    half k E = record {
      exact = λ q m x. E.exact q m;
      level = λ q m x o. least-ext _ _ (test-kind k T t q (A.entry q a) m x) (l q) (E.level q m (open_at A k true S q x o));
      ordered = λ q p m n c x o u. E.ordered q p m n c (open_at A k true S q x o) (open_at A k true S p (H.pure p q n m (sym c) ∙ x) u);
      closed = λ q m x o. E.core.closed q m (open_at A k false S q x o);
      ranked = λ q m x o. E.core.ranked q m (open_at A k true S q x o);
      gapless = λ q j m x o b d.
          let g = E.core.gapless q j m (open_at A k true S q x o) b d in
          (g.0, g.1, g.2, open_of A k true S g.0 (H.pure g.0 q g.1 m g.2 ∙ x) g.3, g.4);
    }

    -- ---- and back

    module _ (E : (k : Bool) → EarlierOf A k a S r T t l) where
      both-step : Earlier A a S r T t l
      both-step = record {
        exact = λ q m. (E (A.accepting q)).exact q m refl;
        level = λ q m o. let k = A.accepting q in
            least-ext _ _ (λ j. sym (test-kind k T t q (A.entry q a) m refl j)) (l q) ((E k).level q m refl (open_of A k true S q refl o));
        ordered = λ q p m n c o u. let k = A.accepting q in
            (E k).ordered q p m n c refl (open_of A k true S q refl o) (open_of A k true S p (H.pure p q n m (sym c)) u);
        core = record {
          closed = λ q m o. let k = A.accepting q in (E k).closed q m refl (open_of A k false S q refl o);
          ranked = λ q m o. let k = A.accepting q in (E k).ranked q m refl (open_of A k true S q refl o);
          gapless = λ q j m o b d. let k = A.accepting q in
              let g = (E k).gapless q j m refl (open_of A k true S q refl o) b d in
              (g.0, g.1, g.2, open_at A k true S g.0 (H.pure g.0 q g.1 m g.2) g.3, g.4);
        };
      }

    pub both : EarlierRejecting A a S r T t l → EarlierAccepting A a S r T t l → (k : Bool) → EarlierOf A k a S r T t l
    both R P true = of-accepting A P
    both R P false = of-rejecting A R

    -- both halves together are 01's step
    pub halves-iff : (EarlierRejecting A a S r T t l × EarlierAccepting A a S r T t l) ↔ Earlier A a S r T t l
    halves-iff = (λ h. both-step (both h.0 h.1), λ E. (to-rejecting A (half false E), to-accepting A (half true E)))

    -- ---- a half says nothing of ranks and levels of the other kind

    pub half-same : (k : Bool) (r' l' : ℕ → ℕ) → ((q : ℕ) → q < A.n → A.accepting q ≡ k → (r q ≡ r' q) × (l q ≡ l' q)) → EarlierOf A k a S r T t l → EarlierOf A k a S r' T t l'
    half-same k r' l' e R = record {
      exact = R.exact;
      level = λ q m x o. rw (e q m x).1 at (R.level q m x o);
      ordered = λ q p m n c x o u. let y = H.pure p q n m (sym c) ∙ x in rw ((e q m x).0, (e q m x).1, (e p n y).0, (e p n y).1) at (R.ordered q p m n c x o u);
      closed = λ q m x o. sym (e q m x).0 ∙ R.closed q m x o;
      ranked = λ q m x o. rw (e q m x).0 at (R.ranked q m x o);
      gapless = λ q j m x o b d.
          let g = R.gapless q j m x o b (rw (sym (e q m x).0) at d) in
          (g.0, g.1, g.2, g.3, sym (e g.0 g.1 (H.pure g.0 q g.1 m g.2 ∙ x)).0 ∙ g.4);
    }

  together-kind : (k : Bool) (f g : ℕ → ℕ) (q : ℕ) → A.accepting q ≡ k → cond k (g q) (f q) ≡ both_halves A f g q
  unfolding both_halves
  together-kind k f g q x = sym (ap (λ (b : Bool). cond b (g q) (f q)) x)

  -- two halves found apart, each with ranks and levels of its own, make 01's step
  pub halves-together : (a : ℕ) (S T : Set) (t r₁ l₁ r₂ l₂ : ℕ → ℕ) → EarlierRejecting A a S r₁ T t l₁ → EarlierAccepting A a S r₂ T t l₂
      → Earlier A a S (both_halves A r₁ r₂) T t (both_halves A l₁ l₂)
  halves-together a S T t r₁ l₁ r₂ l₂ R P = both-step a S (both_halves A r₁ r₂) T t (both_halves A l₁ l₂) of-kind
    where
      of-kind : (k : Bool) → EarlierOf A k a S (both_halves A r₁ r₂) T t (both_halves A l₁ l₂)
      of-kind true = half-same a S r₂ T t l₂ true _ _ (λ q m x. (together-kind true r₁ r₂ q x, together-kind true l₁ l₂ q x)) (of-accepting A P)
      of-kind false = half-same a S r₁ T t l₁ false _ _ (λ q m x. (together-kind false r₁ r₂ q x, together-kind false l₁ l₂ q x)) (of-rejecting A R)
