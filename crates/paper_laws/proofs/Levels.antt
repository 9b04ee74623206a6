-- One level is below another exactly if some class of the later core comes between: R1' and R2' are the order by levels.
use mathlib.Core.Path.{◌≡◌, refl, sym, ◌∙◌, ap}
use mathlib.Core.Logic.{◌↔◌, by_cases}
use mathlib.Core.Bool.{Bool, true, false, ◌&&◌, ◌||◌, not, cond, and-true, and-false, or-true, or-false}
use mathlib.Core.List.{List}
use Prim.Native.Nat.{ℕ, suc, ◌-◌, ◌<◌}
use native.Mathlib.Omega.{arith}
use native.Mathlib.Decide.{dec_lt}
use lib.Dec.{eqb, leb, ltb}
use borrow.Author.Tests.{eqb-true, eq-eqb, lt-ltb, le-leb, leb-true, ltb-true}
use Rattle.sets.specs.Tests.{Set, some_below, largest}
use Rattle.sets.specs.Masks.{exclusive}
use Rattle.sets.proofs.Bools.{bif, clash, and_l, and_r, and_i, not_t, iff}
use Rattle.sets.proofs.Tests.{some-get, some_at, largest-hit}
use Rattle.theory.specs.Automaton.{Automaton}
use Rattle.theory.specs.Layered.{Layered}
use Rattle.theory.specs.Rule.{satisfies}
use Rattle.theory.specs.Core.{is_open, mix, settled_up_to, Core, Earlier, open_of_lem}
use Rattle.theory_laws.proofs.Pursuit.{open-kind, open_at}
use Rattle.theory_laws.proofs.Satisfies.{open_in, meets, satisfies-ext}
use Rattle.theory_laws.proofs.Levels.{test-mono}
use Rattle.theory_laws.proofs.Classes.{open-component, open-state}
use Rattle.theory_laws.proofs.Cores.{level-classes}
use Rattle.paper_spec.specs.Definition7.{satisfies_dual, in_c, lower_r1, witness_r1, lower_r2, witness_r2}
use Rattle.paper_laws.proofs.Halves.{test-kind}
use Rattle.paper_laws.proofs.Dual.{dual-is}

below_suc : (x k : ℕ) → ltb x (suc k) ≡ leb x k
below_suc x k = iff _ _ (λ t. le-leb x k (omega (arith, ltb-true x (suc k) t))) (λ t. lt-ltb x (suc k) (omega (arith, leb-true x k t)))

-- the sets of R1' and R2', by whether a state is in C
lower_in : (c b x : Bool) → ((c && b) && x) || (b && not c) ≡ cond c (b && x) b
lower_in c b x = bif c (λ t. rw (t, and-false b, or-false (b && x))) (λ t. rw (t, and-true b))

lower-out : (c b x : Bool) → ((c && not b) && x) || not (b || c) ≡ cond c (not b && x) (not b)
lower-out c b x = bif c (λ t. rw (t, or-true b, or-false (not b && x))) (λ t. rw (t, or-false b))

-- the right-hand side of R1', or of R2' where the kind k is accepting
abbrev pub witness_of : Automaton → ℕ → Set → (ℕ → ℕ) → Bool → ℕ → ℕ → Bool
witness_of A a T t k = cond k (witness_r2 A a T t) (witness_r1 A a T t)

-- (S, r) is the core before the core (T, t) at letter a
module _ (A : Automaton) (H : Layered A) (a : ℕ) (S : Set) (r : ℕ → ℕ) (T : Set) (t : ℕ → ℕ) (l : ℕ → ℕ) (E : Earlier A a S r T t l) (C : Core A T t) where
  abbrev tested : ℕ → ℕ → Bool
  tested q k = settled_up_to A T t q (A.entry q a) k

  -- a class of the later core between the levels of q and q': the classes below it settle q, and do not settle q'
  record Between (q q' : ℕ) : Type 0 where
    state : ℕ
    below : state < A.n
    same : A.component state ≡ A.component q
    opened : is_open A T state ≡ true
    lower : ℕ
    rank : t state ≡ suc lower
    yes-at : tested q lower ≡ true
    not_at : tested q' lower ≡ false

  between-less : (q q' : ℕ) → q < A.n → q' < A.n → is_open A S q ≡ true → is_open A S q' ≡ true → Between q q' → l q < l q'
  between-less q q' m n o u b =
      by_cases (dec_lt b.lower (l q')) (λ h. omega (arith, (E.level q m o).least b.lower b.yes-at))
      (λ h. clash (test-mono A T t q' (A.entry q' a) (l q') b.lower (omega arith) (E.level q' n u).holds) b.not_at)

  -- the class whose rank is the level of q'
  class-at : (q q' x : ℕ) → q < A.n → q' < A.n → A.component q ≡ A.component q' → is_open A S q ≡ true → is_open A S q' ≡ true → l q < l q'
      → x < A.n → open_of_lem A T (A.component q') x ≡ true → t x ≡ largest A.n (open_of_lem A T (A.component q')) t → Between q q'
  class-at q q' x m n c o u h b d e =
      let g = C.gapless x (l q') b (open-state A T (A.component q') x d) (omega arith) (omega (arith, e, level-classes A a T t H S r l E q' n u)) in
      record {
        state = g.0;
        below = g.1;
        same = g.2 ∙ open-component A T (A.component q') x d ∙ sym c;
        opened = g.3;
        lower = l q' - 1;
        rank = omega (arith, g.4);
        yes-at = test-mono A T t q (A.entry q a) (l q) (l q' - 1) (omega arith) (E.level q m o).holds;
        not_at = bif (tested q' (l q' - 1)) (λ y. let z = (E.level q' n u).least (l q' - 1) y in absurd (omega arith)) (λ y. y);
      }

  less-between : (q q' : ℕ) → q < A.n → q' < A.n → A.component q ≡ A.component q' → is_open A S q ≡ true → is_open A S q' ≡ true → l q < l q' → Between q q'
  less-between q q' m n c o u h =
      let x = largest-hit A.n (open_of_lem A T (A.component q')) t (omega (arith, level-classes A a T t H S r l E q' n u)) in
      class-at q q' x.0 m n c o u h x.1 x.2 x.3

  -- ---- R1' and R2', by the kind k

  abbrev lower_of : Bool → ℕ → ℕ → Set
  lower_of k = cond k (lower_r2 A a T t) (lower_r1 A a T t)

  abbrev satisfies_of : Bool → Set → List ℕ → Bool
  satisfies_of k = cond k (satisfies_dual A.n) (satisfies A.n)

  lower-set : (k : Bool) (q p v j s : ℕ) → A.component p ≡ A.component q → t v ≡ suc j → lower_of k q v s ≡ mix A p (open_in k T) (λ y. open_in k T y && leb (t y) j) s
  unfolding lower_r1 lower_r2 in_c mix
  lower-set true q p v j s c e = rw (c, e, below_suc (t s) j) (lower-out (eqb (A.component s) (A.component q)) (T s) (leb (t s) j))
  lower-set false q p v j s c e = rw (c, e, below_suc (t s) j) (lower_in (eqb (A.component s) (A.component q)) (T s) (leb (t s) j))

  satisfies-kind : (k : Bool) (X Y : Set) → ((s : ℕ) → X s ≡ Y s) → (e : List ℕ) → satisfies_of k X e ≡ meets k A.n Y e
  satisfies-kind true X Y h e = dual-is A.n X e ∙ ap not (satisfies-ext A.n _ _ (λ s l. ap not (h s)) e)
  satisfies-kind false X Y h e = satisfies-ext A.n X Y (λ s l. h s) e

  -- v shows that q is below q'
  abbrev shows : Bool → ℕ → ℕ → ℕ → Bool
  shows k q q' v = satisfies_of k (lower_of k q v) (A.entry q a) && not (satisfies_of k (lower_of k q v) (A.entry q' a))

  witness-is : (k : Bool) (q q' : ℕ) → witness_of A a T t k q q' ≡ some_below A.n (λ v. (in_c A a T t q v && open_in k T v) && shows k q q' v)
  unfolding witness_r1 witness_r2
  witness-is true q q' = refl
  witness-is false q q' = refl

  module _ (k : Bool) (q : ℕ) (m : q < A.n) (x : A.accepting q ≡ k) where
    -- the classes below the state v, with the states outside that are as open states of the kind, on the entry of a state p of q's component
    lower-test : (p v j : ℕ) → p < A.n → A.component p ≡ A.component q → t v ≡ suc j → satisfies_of k (lower_of k q v) (A.entry p a) ≡ tested p j
    lower-test p v j n c e =
        satisfies-kind k (lower_of k q v) (mix A p (open_in k T) (λ y. open_in k T y && leb (t y) j)) (λ s. lower-set k q p v j s c e) (A.entry p a)
        ∙ sym (test-kind A H k T t p (A.entry p a) n (H.pure p q n m c ∙ x) j)

    module _ (q' : ℕ) (n : q' < A.n) (c : A.component q ≡ A.component q') where
      witness-between : witness_of A a T t k q q' ≡ true → Between q q'
      unfolding in_c
      witness-between w =
          let g = some-get A.n (λ v. (in_c A a T t q v && open_in k T v) && shows k q q' v) (sym (witness-is k q q') ∙ w) in
          let v = g.0 in
          let i = and_l (in_c A a T t q v && open_in k T v) (shows k q q' v) g.2 in
          let f = and_r (in_c A a T t q v && open_in k T v) (shows k q q' v) g.2 in
          let s = eqb-true (A.component v) (A.component q) (and_l (in_c A a T t q v) (open_in k T v) i) in
          let o = open-kind A k T v (H.pure v q g.1 m s ∙ x) ∙ and_r (in_c A a T t q v) (open_in k T v) i in
          let e : t v ≡ suc (t v - 1) = omega (arith, C.ranked v g.1 o) in
          let here = satisfies_of k (lower_of k q v) (A.entry q a) in
          let there = satisfies_of k (lower_of k q v) (A.entry q' a) in
          record {
            state = v;
            below = g.1;
            same = s;
            opened = o;
            lower = t v - 1;
            rank = e;
            yes-at = sym (lower-test q v (t v - 1) m refl e) ∙ and_l here (not there) f;
            not_at = sym (lower-test q' v (t v - 1) n (sym c) e) ∙ not_t there (and_r here (not there) f);
          }

      between-witness : Between q q' → witness_of A a T t k q q' ≡ true
      unfolding in_c
      between-witness b =
          witness-is k q q' ∙ some_at A.n (λ v. (in_c A a T t q v && open_in k T v) && shows k q q' v) b.state b.below
          (and_i
          (and_i (eq-eqb (A.component b.state) (A.component q) b.same) (sym (open-kind A k T b.state (H.pure b.state q b.below m b.same ∙ x)) ∙ b.opened))
          (and_i (lower-test q b.state b.lower m refl b.rank ∙ b.yes-at) (ap not (lower-test q' b.state b.lower n (sym c) b.rank ∙ b.not_at))))

      -- the rule is the order by levels
      pub witness-levels : S q ≡ exclusive k true → S q' ≡ exclusive k true → (l q < l q') ↔ (witness_of A a T t k q q' ≡ true)
      witness-levels o u =
          let v = open_at A k true S q x o in
          let w = open_at A k true S q' (H.pure q' q n m (sym c) ∙ x) u in
          (λ h. between-witness (less-between q q' m n c v w h), λ h. between-less q q' m n v w (witness-between h))

  pub r1-levels : (q : ℕ) → q < A.n → A.accepting q ≡ false → (q' : ℕ) → q' < A.n → A.component q ≡ A.component q' → S q ≡ true → S q' ≡ true
      → (l q < l q') ↔ (witness_r1 A a T t q q' ≡ true)
  r1-levels = witness-levels false

  pub r2-levels : (q : ℕ) → q < A.n → A.accepting q ≡ true → (q' : ℕ) → q' < A.n → A.component q ≡ A.component q' → S q ≡ false → S q' ≡ false
      → (l q < l q') ↔ (witness_r2 A a T t q q' ≡ true)
  r2-levels = witness-levels true
