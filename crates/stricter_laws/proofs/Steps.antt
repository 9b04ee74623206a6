-- One step between two codes: levels against classes, and the computed test.
use mathlib.Core.Path.{◌≡◌, sym, ◌∙◌}
use mathlib.Core.Logic.{◌↔◌, inl, inr, ⊎_elim, by_cases}
use mathlib.Core.Bool.{true, false, ◌&&◌, not}
use Prim.Native.Nat.{ℕ, zero, suc, ◌+◌, ◌-◌, ◌≤◌, ◌<◌}
use native.Mathlib.Omega.{arith}
use native.Mathlib.Decide.{dec_le, ℕ_discrete}
use lib.Dec.{eqb, leb}
use borrow.Author.Tests.{eqb-true, eqb-false, eq-eqb, leb-true, le-leb}
use Rattle.sets.specs.Tests.{Set, count, largest}
use Rattle.sets.proofs.Bools.{bif, clash, and_l, and_r, and_i, or_cases, or_r, or-fl, or-fr, not_t, not_f}
use Rattle.sets.proofs.Tests.{some_at, some-get, largest-ge, largest-le, largest-hit}
use Rattle.theory.specs.Automaton.{Automaton}
use Rattle.theory.specs.Layered.{Layered}
use Rattle.theory.specs.Code.{set_in, rank_in}
use Rattle.theory.specs.Core.{is_open, Core, open_of_lem, Earlier}
use Rattle.theory.specs.CoreComputed.{level_of}
use Rattle.theory_laws.proofs.Classes.{open-component, open-state}
use Rattle.theory_laws.proofs.Cores.{core-rank-comp}
use Rattle.theory_laws.proofs.Goes.{rank-small}
use Rattle.theory_laws.proofs.Levels.{least-unique, least-classes, level-least}
use Rattle.spare_spec.specs.Spare.{classes_of_lem, SparesIn, EarlierIn}
use Rattle.spare_spec.specs.SpareComputed.{has_level, spares}

-- the number of component K's classes in the code c
abbrev pub classes_at : Automaton → ℕ → ℕ → ℕ
classes_at A c K = classes_of_lem A (set_in A c) (rank_in A c) K

-- how many states component K has
abbrev pub size_of : Automaton → ℕ → ℕ
size_of A K = count A.n (λ q. eqb (A.component q) K)

-- it has no more classes than states
pub classes-size : {A : Automaton} (c : ℕ) → Core A (set_in A c) (rank_in A c) → (K : ℕ) → classes_at A c K ≤ size_of A K
classes-size {A = A} c C K = largest-le A.n (open_of_lem A (set_in A c) K) (rank_in A c) (size_of A K)
    (λ q m o. rw (open-component A (set_in A c) K q o) at (core-rank-comp A (set_in A c) (rank_in A c) C q m))

-- levels rise with ranks
pub level-less : {A : Automaton} {a : ℕ} {S T : Set} {r t l : ℕ → ℕ} → Earlier A a S r T t l → (q p : ℕ) → q < A.n → p < A.n → A.component q ≡ A.component p
    → is_open A S q ≡ true → is_open A S p ≡ true → r q < r p → l q < l p
level-less {l = l} E q p x y e o u h =
    by_cases (dec_le (l p) (l q)) (λ k. let z = (E.ordered p q y x (sym e) u o).1 k in absurd (omega arith)) (λ k. omega arith)

module _ {A : Automaton} (H : Layered A) (a c d : ℕ) (l : ℕ → ℕ) (E : EarlierIn A a c d l) where
  -- ---- the computed test

  level-is : (q : ℕ) → q < A.n → is_open A (set_in A c) q ≡ true → level_of A 15 (set_in A d) (rank_in A d) q (A.entry q a) ≡ l q
  level-is q m o =
      let computed = level-least A H a (set_in A c) (set_in A d) E.exact (rank_in A d) 15 (λ p k. rank-small A d p) in
      least-unique _ _ _ (computed q m o) (E.level q m o)

  module _ (K : ℕ) where
    has-level : (q : ℕ) → q < A.n → open_of_lem A (set_in A c) K q ≡ true → (m : ℕ) → l q ≡ m → has_level A a c d K m ≡ true
    unfolding has_level
    has-level q b o m e = some_at A.n _ q b (and_i o (eq-eqb _ m (level-is q b (open-state A (set_in A c) K q o) ∙ e)))

    level-had : (m : ℕ) → has_level A a c d K m ≡ true → (q : ℕ) × (q < A.n) × (open_of_lem A (set_in A c) K q ≡ true) × (l q ≡ m)
    unfolding has_level
    level-had m h =
        let (q, b, t) = some-get A.n _ h in
        let o = and_l (open_of_lem A (set_in A c) K q) _ t in
        (q, b, o, sym (level-is q b (open-state A (set_in A c) K q o)) ∙ eqb-true _ m (and_r (open_of_lem A (set_in A c) K q) _ t))

    -- in a step that spares K a level as high as the number of classes is 0
    pub spared-level : spares A a c d K ≡ true → (q : ℕ) → q < A.n → open_of_lem A (set_in A c) K q ≡ true → l q ≡ classes_at A d K → classes_at A d K ≡ 0
    unfolding spares
    spared-level e q b o f =
        ⊎_elim
        (λ t. clash (has-level q b o (classes_at A d K) f) (not_t _ t))
        (λ t. eqb-true _ 0 t)
        (or_cases (not (has_level A a c d K (classes_at A d K))) (eqb (classes_at A d K) 0) e)

    -- in any other there is one, which is not 0
    pub unspared-level : spares A a c d K ≡ false → (q : ℕ) × (q < A.n) × (open_of_lem A (set_in A c) K q ≡ true) × (l q ≡ classes_at A d K)
    unfolding spares
    unspared-level e = level-had (classes_at A d K) (not_f _ (or-fl (not (has_level A a c d K (classes_at A d K))) _ e))

    pub unspared-some : spares A a c d K ≡ false → 0 < classes_at A d K
    unfolding spares
    unspared-some e = let n = eqb-false (classes_at A d K) 0 (or-fr (not (has_level A a c d K (classes_at A d K))) _ e) in omega arith

    pub no-class-spares : classes_at A d K ≡ 0 → spares A a c d K ≡ true
    unfolding spares
    no-class-spares e = or_r (not (has_level A a c d K (classes_at A d K))) _ (eq-eqb _ 0 e)

    -- the computed test is the defined one
    spares-in : spares A a c d K ≡ true → SparesIn A a c d K
    spares-in e =
        by_cases (ℕ_discrete (classes_at A d K) 0) inr
        (λ n. inl (λ q b o x. n (spared-level e q b o (least-unique _ _ _ (E.level q b (open-state A (set_in A c) K q o)) x))))

    spares-out : SparesIn A a c d K → spares A a c d K ≡ true
    spares-out (inr z) = no-class-spares z
    spares-out (inl h) =
        bif (spares A a c d K)
        (λ t. t)
        (λ t. let (q, b, o, e) = unspared-level t in absurd (h q b o (rw e at (E.level q b (open-state A (set_in A c) K q o)))))

    pub spares-iff : (spares A a c d K ≡ true) ↔ SparesIn A a c d K
    spares-iff = (spares-in, spares-out)

  -- ---- levels rise with ranks

  level-rises : (j q p : ℕ) → q < A.n → p < A.n → A.component q ≡ A.component p
      → is_open A (set_in A c) q ≡ true → is_open A (set_in A c) p ≡ true → rank_in A c p ≡ rank_in A c q + j → l q + j ≤ l p
  level-rises zero q p x y e o u h = let z = (E.ordered q p x y e o u).0 (omega arith) in omega arith
  level-rises (suc j) q p x y e o u h =
      let low = E.core.ranked q x o in
      let (g, b, f, v, i) = E.core.gapless p (rank_in A c q + j) y u (omega arith) (omega arith) in
      let ih = level-rises j q g x b (e ∙ sym f) o v i in
      let k = level-less E g p b y f v u (omega arith) in
      omega arith

  module _ (K : ℕ) where
    same-component : (q p : ℕ) → open_of_lem A (set_in A c) K q ≡ true → open_of_lem A (set_in A c) K p ≡ true → A.component q ≡ A.component p
    same-component q p o u = open-component A (set_in A c) K q o ∙ sym (open-component A (set_in A c) K p u)

    -- no level is above the number of classes
    level-low : (q : ℕ) → q < A.n → open_of_lem A (set_in A c) K q ≡ true → l q ≤ classes_at A d K
    level-low q b o =
        let s = open-state A (set_in A c) K q o in
        let h = least-classes A H a (set_in A c) (set_in A d) E.exact (rank_in A d) q b s (l q) (E.level q b s) in
        rw (open-component A (set_in A c) K q o) at h

    -- the highest level
    top-level : (q : ℕ) → q < A.n → open_of_lem A (set_in A c) K q ≡ true
        → (p : ℕ) × (p < A.n) × (open_of_lem A (set_in A c) K p ≡ true) × (l q + (classes_at A c K - rank_in A c q) ≤ l p)
    top-level q b o =
        let s = open-state A (set_in A c) K q o in
        let low = E.core.ranked q b s in
        let high = largest-ge A.n (open_of_lem A (set_in A c) K) (rank_in A c) q b o in
        let (p, y, u, e) = largest-hit A.n (open_of_lem A (set_in A c) K) (rank_in A c) (omega arith) in
        let v = open-state A (set_in A c) K p u in
        (p, y, u, level-rises (classes_at A c K - rank_in A c q) q p b y (same-component q p o u) s v (omega arith))

    -- what is left after a step with k classes left
    abbrev pub left_of : ℕ → ℕ
    left_of k = largest A.n (λ q. open_of_lem A (set_in A c) K q && leb (rank_in A c q) k) l

    pub left-low : (k : ℕ) → left_of k ≤ classes_at A d K
    left-low k = largest-le A.n _ l (classes_at A d K) (λ q b t. level-low q b (and_l (open_of_lem A (set_in A c) K q) _ t))

    left-hit : (k : ℕ) → 0 < left_of k → (q : ℕ) × (q < A.n) × (open_of_lem A (set_in A c) K q ≡ true) × (rank_in A c q ≤ k) × (l q ≡ left_of k)
    left-hit k h =
        let (q, b, t, e) = largest-hit A.n (λ q. open_of_lem A (set_in A c) K q && leb (rank_in A c q) k) l h in
        (q, b, and_l (open_of_lem A (set_in A c) K q) _ t, leb-true _ k (and_r (open_of_lem A (set_in A c) K q) _ t), e)

    -- with k at least 1 the number of classes above k never falls
    pub above-grows : (k : ℕ) → 0 < left_of k → classes_at A c K - k + left_of k ≤ classes_at A d K
    above-grows k h =
        let (q, b, o, f, e) = left-hit k h in
        let (p, y, u, g) = top-level q b o in
        let top = level-low p y u in
        omega arith

    -- and grows with each spared step
    pub above-spared : spares A a c d K ≡ true → (k : ℕ) → 0 < left_of k → classes_at A c K - k + left_of k < classes_at A d K
    above-spared s k h =
        let (q, b, o, f, e) = left-hit k h in
        let (p, y, u, g) = top-level q b o in
        let top = level-low p y u in
        let low = left-low k in
        by_cases (dec_le (classes_at A d K) (l p))
        (λ x. let z = spared-level K s p y u (omega arith) in absurd (omega arith))
        (λ x. omega arith)

    -- unspared, a full k stays full
    pub full-stays : spares A a c d K ≡ false → (k : ℕ) → classes_at A c K ≤ k → classes_at A d K ≤ left_of k
    full-stays s k h =
        let (q, b, o, e) = unspared-level K s in
        let high = largest-ge A.n (open_of_lem A (set_in A c) K) (rank_in A c) q b o in
        let m = largest-ge A.n (λ q. open_of_lem A (set_in A c) K q && leb (rank_in A c q) k) l q b (and_i o (le-leb _ k (omega arith))) in
        omega arith
