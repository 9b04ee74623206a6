-- Cores: the test for one, ranks counted from any numbering of the open states, and the earlier core.
use mathlib.Core.Path.{◌≡◌, refl, sym, ◌∙◌, ap, ap₂}
use mathlib.Core.Logic.{◌↔◌, by_cases}
use mathlib.Core.Bool.{Bool, true, false, ◌&&◌, not, cond}
use Prim.Native.Nat.{ℕ, zero, suc, ◌+◌, ◌≤◌, ◌<◌}
use native.Mathlib.Omega.{arith}
use native.Mathlib.Nat.{le_trans, le_of_eq}
use native.Mathlib.Decide.{ℕ_discrete}
use lib.Dec.{eqb, leb, ltb}
use borrow.Author.Tests.{eqb-true, eq-eqb, ne_eqb, lt-ltb, le-ltb, ltb-true, leb-true, le-leb}
use Rattle.sets.specs.Tests.{Set, every, one, some_below, count, largest}
use Rattle.sets.proofs.Bools.{bif, and_l, and_r, and_i, iff}
use Rattle.sets.proofs.Tests.{every-at, every-all, some_at, some-get, some-none, count-hit, count-max, largest-hit, largest-ge, largest-le}
use Rattle.theory.specs.Automaton.{Automaton}
use Rattle.theory.specs.Layered.{Layered}
use Rattle.theory.specs.Core.{is_open, Core, Earlier, open_of_lem, next_component_lem}
use Rattle.theory.specs.CoreComputed.{level_of, taken, rank_of, is_core_lem}
use Rattle.theory.specs.Rule.{satisfies}
use Rattle.theory_laws.proofs.Classes.{open-component, open-state, rank-comp, rank-order, rank-open-is, rank-upto, taken_own}
use Rattle.theory_laws.proofs.Levels.{least-unique, least-classes, level-least}

-- a test of just the numbers from 1 to m holds at m numbers
count-from-one : (N m : ℕ) (f : Set) → m ≤ N → f 0 ≡ false → ((j : ℕ) → 1 ≤ j → j ≤ m → f j ≡ true) → ((j : ℕ) → m < j → j ≤ N → f j ≡ false) → count (suc N) f ≡ m
unfolding count
count-from-one zero m f l z h k = let e : one (f 0) ≡ 0 = rw z in omega arith
count-from-one (suc N) m f l z h k =
    by_cases (ℕ_discrete m (suc N))
    (λ x. let e : one (f (suc N)) ≡ 1 = rw (h (suc N) (omega arith) (omega arith)) in
    let ih = count-from-one N N f (omega arith) z (λ j a b. h j a (omega arith)) (λ j a b. absurd (omega arith)) in omega arith)
    (λ x. let e : one (f (suc N)) ≡ 0 = rw (k (suc N) (omega arith) (omega arith)) in
    let ih = count-from-one N m f (omega arith) z h (λ j a b. k j a (omega arith)) in omega arith)

module _ (A : Automaton) where
  -- ---- sets and ranks that agree on the states

  pub open-ext : (S S' : Set) (q : ℕ) → S q ≡ S' q → is_open A S q ≡ is_open A S' q
  unfolding is_open
  open-ext S S' q e = ap (λ (b : Bool). cond (A.accepting q) (not b) b) e

  pub core-ext : (S S' : Set) (r r' : ℕ → ℕ) → ((q : ℕ) → q < A.n → S q ≡ S' q) → ((q : ℕ) → q < A.n → r q ≡ r' q) → Core A S r → Core A S' r'
  core-ext S S' r r' e f C = record {
    closed = λ q l o. sym (f q l) ∙ C.closed q l (open-ext S S' q (e q l) ∙ o);
    ranked = λ q l o. let h = C.ranked q l (open-ext S S' q (e q l) ∙ o) in let k = f q l in omega arith;
    gapless = λ q j l o a b.
        let g = C.gapless q j l (open-ext S S' q (e q l) ∙ o) a (omega (arith, f q l)) in
        (g.0, g.1, g.2, sym (open-ext S S' g.0 (e g.0 g.1)) ∙ g.3, sym (f g.0 g.1) ∙ g.4);
  }

  -- ---- ranks counted from a numbering l of the open states of S are those of a core, in the order of l

  module _ (S : Set) (l : ℕ → ℕ) where
    -- p's value is x, and x is the (j + 1)th
    rank-at : (q j x p : ℕ) → count x (taken A S l (A.component q)) ≡ j → taken A S l (A.component q) x ≡ true → A.component p ≡ A.component q → is_open A S p ≡ true → l p ≡ x →
        rank_of A S l p ≡ suc j
    unfolding count
    rank-at q j x p e t c o v =
        let y : one (taken A S l (A.component q) x) ≡ 1 = rw t in
        rank-open-is A S l p o
        ∙ ap₂ (λ (a C : ℕ). count a (taken A S l C) + one (taken A S l C a)) v c
        ∙ (let z : count x (taken A S l (A.component q)) + one (taken A S l (A.component q) x) ≡ suc j = omega arith in z)

    Held : ℕ → ℕ → Type 0
    Held q j = (p : ℕ) × (p < A.n) × (A.component p ≡ A.component q) × (is_open A S p ≡ true) × (rank_of A S l p ≡ j)

    held_at : (q j x : ℕ) → count x (taken A S l (A.component q)) ≡ j → taken A S l (A.component q) x ≡ true
        → (p : ℕ) → p < A.n → eqb (A.component p) (A.component q) && (is_open A S p && eqb (l p) x) ≡ true → Held q (suc j)
    unfolding Held
    held_at q j x e t p m f =
        let c = eqb-true _ _ (and_l (eqb (A.component p) (A.component q)) (is_open A S p && eqb (l p) x) f) in
        let u = and_r (eqb (A.component p) (A.component q)) (is_open A S p && eqb (l p) x) f in
        let o = and_l (is_open A S p) (eqb (l p) x) u in
        (p, m, c, o, rank-at q j x p e t c o (eqb-true _ _ (and_r (is_open A S p) (eqb (l p) x) u)))

    held : (q j : ℕ) → is_open A S q ≡ true → j < rank_of A S l q → Held q (suc j)
    unfolding taken
    held q j o h =
        let x = count-hit (suc (l q)) (taken A S l (A.component q)) j (rw (rank-open-is A S l q o) at h) in
        let p = some-get A.n (λ p. eqb (A.component p) (A.component q) && (is_open A S p && eqb (l p) x.0)) x.2 in
        held_at q j x.0 x.3 x.2 p.0 p.1 p.2

    pub rank-shut-is : (q : ℕ) → is_open A S q ≡ false → rank_of A S l q ≡ 0
    unfolding rank_of
    rank-shut-is q o = ap (λ (b : Bool). cond b (count (suc (l q)) (taken A S l (A.component q))) 0) o

    pub rank-open-pos : (q : ℕ) → q < A.n → is_open A S q ≡ true → 1 ≤ rank_of A S l q
    unfolding count
    rank-open-pos q m o = let y : one (taken A S l (A.component q) (l q)) ≡ 1 = rw (taken_own A S l q m o) in omega (arith, rank-open-is A S l q o)

    gap_of : (q j : ℕ) → is_open A S q ≡ true → 1 ≤ j → j ≤ rank_of A S l q → Held q j
    gap_of q zero o a b = absurd (omega arith)
    gap_of q (suc j) o a b = held q j o (omega arith)

    pub rank-core : Core A S (rank_of A S l)
    unfolding Held
    rank-core = record { closed = λ q m o. rank-shut-is q o; ranked = rank-open-pos; gapless = λ q j m o a b. gap_of q j o a b }

    pub rank-ordered : (q p : ℕ) → q < A.n → p < A.n → A.component q ≡ A.component p → is_open A S q ≡ true → is_open A S p ≡ true → (rank_of A S l q ≤ rank_of A S l p) ↔ (l q ≤ l p)
    rank-ordered q p m n c o u =
        let e = rw (← c) at (rank-open-is A S l p u) in
        let x = rank-upto A S l q m o (l p) in (
          λ h. leb-true _ _ (sym x ∙ le-leb _ _ (le_trans h (le_of_eq e))),
          λ h. le_trans (leb-true (rank_of A S l q) (count (suc (l p)) (taken A S l (A.component q))) (x ∙ le-leb (l q) (l p) h)) (le_of_eq (sym e)),
        )

  -- ---- the ranks of a core

  module _ (S : Set) (r : ℕ → ℕ) (C : Core A S r) where
    none-taken : (K : ℕ) → taken A S r K 0 ≡ false
    unfolding taken
    none-taken K = some-none A.n _ (λ p m. bif (eqb (A.component p) K && (is_open A S p && eqb (r p) 0))
        (λ t. let u = and_r (eqb (A.component p) K) (is_open A S p && eqb (r p) 0) t in
        let h = C.ranked p m (and_l (is_open A S p) (eqb (r p) 0) u) in
        let z = eqb-true (r p) 0 (and_r (is_open A S p) (eqb (r p) 0) u) in absurd (omega arith))
        (λ t. t))

    pub rank-taken : (q j : ℕ) → q < A.n → is_open A S q ≡ true → 1 ≤ j → j ≤ r q → taken A S r (A.component q) j ≡ true
    unfolding taken
    rank-taken q j m o a b = let g = C.gapless q j m o a b in some_at A.n _ g.0 g.1 (and_i (eq-eqb _ _ g.2) (and_i g.3 (eq-eqb _ _ g.4)))

    -- counting its ranks gives them again
    pub core-rank : (q : ℕ) → q < A.n → rank_of A S r q ≡ r q
    core-rank q m =
        bif (is_open A S q)
        (λ o. rank-open-is A S r q o ∙ count-from-one (r q) (r q) (taken A S r (A.component q)) (omega arith) (none-taken (A.component q)) (λ j a b. rank-taken q j m o a b)
        (λ j a b. absurd (omega arith)))
        (λ o. rank-shut-is S r q o ∙ sym (C.closed q m o))

    -- so they are at most the size of the component
    pub core-rank-comp : (q : ℕ) → q < A.n → r q ≤ count A.n (λ p. eqb (A.component p) (A.component q))
    core-rank-comp q m = rw (← core-rank q m) (rank-comp A S r q)

    pub core-rank-max : (q : ℕ) → q < A.n → r q ≤ A.n
    core-rank-max q m = le_trans (core-rank-comp q m) (count-max A.n _)

    -- the order of the open states of each component fixes them
    pub rank-unique : (l : ℕ → ℕ) → ((q p : ℕ) → q < A.n → p < A.n → A.component q ≡ A.component p → is_open A S q ≡ true → is_open A S p ≡ true → (r q ≤ r p) ↔ (l q ≤ l p))
        → (q : ℕ) → q < A.n → r q ≡ rank_of A S l q
    rank-unique l h q m =
        sym (core-rank q m)
        ∙ rank-order A S r l (λ p t x y c o u. iff (leb (r p) (r t)) (leb (l p) (l t))
        (λ e. le-leb (l p) (l t) ((h p t x y c o u).0 (leb-true (r p) (r t) e)))
        (λ e. le-leb (r p) (r t) ((h p t x y c o u).1 (leb-true (l p) (l t) e)))) q m

    -- an open state is one with a rank
    pub open-of-rank : (q : ℕ) → q < A.n → is_open A S q ≡ ltb 0 (r q)
    open-of-rank q m =
        bif (is_open A S q) (λ o. o ∙ sym (lt-ltb 0 (r q) (C.ranked q m o)))
        (λ o. o ∙ sym (le-ltb 0 (r q) (let h = C.closed q m o in omega arith)))

    -- a rank of component K is at most the largest
    taken-low : (K j : ℕ) → taken A S r K j ≡ true → j ≤ largest A.n (open_of_lem A S K) r
    unfolding taken open_of_lem
    taken-low K j t =
        let g = some-get A.n _ t in
        let u = and_r (eqb (A.component g.0) K) _ g.2 in
        let e = eqb-true (r g.0) j (and_r (is_open A S g.0) _ u) in
        let h = largest-ge A.n (open_of_lem A S K) r g.0 g.1 (and_i (and_l (eqb (A.component g.0) K) _ g.2) (and_l (is_open A S g.0) _ u)) in omega arith

    taken-all : (K j : ℕ) → 1 ≤ j → j ≤ largest A.n (open_of_lem A S K) r → taken A S r K j ≡ true
    taken-all K j a b =
        let (q, m, t, e) = largest-hit A.n (open_of_lem A S K) r (omega arith) in rw (open-component A S K q t) at (rank-taken q j m (open-state A S K q t) a (omega arith))

    -- the largest rank of component K is at most n
    pub classes-max : (K : ℕ) → largest A.n (open_of_lem A S K) r ≤ A.n
    classes-max K = largest-le A.n _ _ A.n (λ q m t. core-rank-max q m)

    -- and the number of its classes: of the ranks that are taken, up to any N that is not less than n
    pub classes-are : (K N : ℕ) → A.n ≤ N → largest A.n (open_of_lem A S K) r ≡ count (suc N) (taken A S r K)
    classes-are K N h =
        sym (count-from-one N (largest A.n (open_of_lem A S K) r) (taken A S r K) (le_trans (classes-max K) h) (none-taken K) (taken-all K)
        (λ j a b. bif (taken A S r K j) (λ t. let x = taken-low K j t in absurd (omega arith)) (λ t. t)))

  -- ---- the test

  module _ (S : Set) (r : ℕ → ℕ) where
    abbrev held_in : ℕ → ℕ → Bool
    held_in q j = some_below A.n (λ p. eqb (A.component p) (A.component q) && (is_open A S p && eqb (r p) (suc j)))

    abbrev ranks-of : ℕ → Bool
    ranks-of q = ltb 0 (r q) && every (r q) (held_in q)

    core-in : Core A S r → is_core_lem A S r ≡ true
    unfolding is_core_lem
    core-in C = every-all A.n _ (λ q l. bif (is_open A S q)
        (λ o. ap (λ (b : Bool). cond b (ranks-of q) (eqb (r q) 0)) o ∙ and_i (lt-ltb 0 (r q) (C.ranked q l o))
        (every-all (r q) (held_in q) (λ j h. let g = C.gapless q (suc j) l o (omega arith) h in some_at A.n _ g.0 g.1 (and_i (eq-eqb _ _ g.2) (and_i g.3 (eq-eqb _ _ g.4))))))
        (λ o. ap (λ (b : Bool). cond b (ranks-of q) (eqb (r q) 0)) o ∙ eq-eqb _ _ (C.closed q l o)))

    module _ (t : is_core_lem A S r ≡ true) where
      at : (q : ℕ) → q < A.n → cond (is_open A S q) (ranks-of q) (eqb (r q) 0) ≡ true
      unfolding is_core_lem
      at q l = every-at A.n (λ q. cond (is_open A S q) (ranks-of q) (eqb (r q) 0)) t q l

      open_at : (q : ℕ) → q < A.n → is_open A S q ≡ true → ranks-of q ≡ true
      open_at q l o = sym (ap (λ (b : Bool). cond b (ranks-of q) (eqb (r q) 0)) o) ∙ at q l

      gap_at : (q j : ℕ) → q < A.n → is_open A S q ≡ true → 1 ≤ j → j ≤ r q → (p : ℕ) × (p < A.n) × (A.component p ≡ A.component q) × (is_open A S p ≡ true) × (r p ≡ j)
      gap_at q zero l o a b = absurd (omega arith)
      gap_at q (suc j) l o a b =
          let g = some-get A.n _ (every-at (r q) (held_in q) (and_r (ltb 0 (r q)) (every (r q) (held_in q)) (open_at q l o)) j b) in
          let u = and_r (eqb (A.component g.0) (A.component q)) _ g.2 in
          (g.0, g.1, eqb-true _ _ (and_l (eqb (A.component g.0) (A.component q)) _ g.2), and_l (is_open A S g.0) _ u, eqb-true _ _ (and_r (is_open A S g.0) _ u))

      core-out : Core A S r
      core-out = record {
        closed = λ q l o. eqb-true _ _ (sym (ap (λ (b : Bool). cond b (ranks-of q) (eqb (r q) 0)) o) ∙ at q l);
        ranked = λ q l o. ltb-true 0 (r q) (and_l (ltb 0 (r q)) (every (r q) (held_in q)) (open_at q l o));
        gapless = gap_at;
      }

    pub core-iff : (is_core_lem A S r ≡ true) ↔ Core A S r
    core-iff = (core-out, core-in)

  -- ---- the earlier core

  module _ (a : ℕ) (T : Set) (t : ℕ → ℕ) where
    -- levels are at most the number of classes in T
    pub level-classes : Layered A → (S : Set) (r l : ℕ → ℕ) → Earlier A a S r T t l → (q : ℕ) → q < A.n → is_open A S q ≡ true → l q ≤ largest A.n (open_of_lem A T (A.component q)) t
    level-classes H S r l E q m o = least-classes A H a S T E.exact t q m o (l q) (E.level q m o)

    -- from levels, closed up
    pub earlier-of : Layered A → (B : ℕ) → ((p : ℕ) → p < A.n → t p ≤ B) → (S : Set) (r : ℕ → ℕ) → ((q : ℕ) → q < A.n → S q ≡ satisfies A.n T (A.entry q a))
        → ((q : ℕ) → q < A.n → r q ≡ rank_of A S (λ p. level_of A B T t p (A.entry p a)) q) → Earlier A a S r T t (λ p. level_of A B T t p (A.entry p a))
    earlier-of H B bound S r e f = record {
      exact = e;
      level = level-least A H a S T e t B bound;
      ordered = λ q p m n c o u.
          let x = f q m in let y = f p n in
          let z = rank-ordered S (λ p. level_of A B T t p (A.entry p a)) q p m n c o u in (λ h. z.0 (rw (x, y) at h), λ h. rw (x, y) (z.1 h));
      core = core-ext S S (rank_of A S (λ p. level_of A B T t p (A.entry p a))) r (λ q m. refl) (λ q m. sym (f q m)) (rank-core S (λ p. level_of A B T t p (A.entry p a)));
    }

    -- a core and a letter have an earlier core
    pub earlier-exists : Layered A → Core A T t → (S : Set) × (r : ℕ → ℕ) × (l : ℕ → ℕ) × Earlier A a S r T t l
    earlier-exists H C =
        let S : Set = λ q. satisfies A.n T (A.entry q a) in
        let l : ℕ → ℕ = λ p. level_of A A.n T t p (A.entry p a) in
        (S, rank_of A S l, l, earlier-of H A.n (core-rank-max T t C) S (rank_of A S l) (λ q m. refl) (λ q m. refl))

    -- and only one
    module _ (S S' : Set) (r r' l l' : ℕ → ℕ) (E : Earlier A a S r T t l) (E' : Earlier A a S' r' T t l') where
      pub earlier-set : (q : ℕ) → q < A.n → S q ≡ S' q
      earlier-set q m = E.exact q m ∙ sym (E'.exact q m)

      opened : (q : ℕ) → q < A.n → is_open A S q ≡ true → is_open A S' q ≡ true
      opened q m o = sym (open-ext S S' q (earlier-set q m)) ∙ o

      pub earlier-level : (q : ℕ) → q < A.n → is_open A S q ≡ true → l q ≡ l' q
      earlier-level q m o = least-unique _ (l q) (l' q) (E.level q m o) (E'.level q m (opened q m o))

      pub earlier-rank : (q : ℕ) → q < A.n → r q ≡ r' q
      earlier-rank q m =
          rank-unique S r E.core l E.ordered q m
          ∙ sym (rank-unique S r' (core-ext S' S r' r' (λ p n. sym (earlier-set p n)) (λ p n. refl) E'.core) l
          (λ q p m n c o u. let x = earlier-level q m o in let y = earlier-level p n u in let z = E'.ordered q p m n c (opened q m o) (opened p n u) in (
            λ h. rw (x, y) (z.0 h),
            λ h. z.1 (rw (x, y) at h),
          )) q m)

      pub earlier-unique : (q : ℕ) → q < A.n → (S q ≡ S' q) × (r q ≡ r' q)
      earlier-unique q m = (earlier-set q m, earlier-rank q m)

  -- ---- the next component

  pub next-below : (K : ℕ) → suc K < A.components → next_component_lem A K ≡ suc K
  unfolding next_component_lem
  next-below K h = rw (ne_eqb (suc K) A.components (λ e. omega arith))

  pub next_last : (K : ℕ) → suc K ≡ A.components → next_component_lem A K ≡ 0
  unfolding next_component_lem
  next_last K h = rw (eq-eqb (suc K) A.components h)

  pub next_low : (K : ℕ) → K < A.components → next_component_lem A K < A.components
  next_low K h =
      by_cases (ℕ_discrete (suc K) A.components) (λ e. rw (next_last K e) (omega arith))
      (λ e. rw (next-below K (omega arith)) (omega arith))
