-- An endless walk that is again and again accepting comes back to an accepting node, since marks are finitely many.
use mathlib.Core.Path.{◌≡◌}
use mathlib.Core.Logic.{by_cases}
use mathlib.Core.Bool.{cond}
use mathlib.Core.List.{List}
use Prim.Native.Nat.{ℕ, zero, suc, ◌-◌, ◌≤◌, ◌<◌}
use native.Mathlib.Omega.{arith}
use native.Mathlib.Decide.{dec_lt, ℕ_discrete}
use lib.Dec.{eqb, ltb}
use lib.ListN.{length, get_or}
use borrow.Author.Tests.{eqb-true, eqb-false, lt-ltb, le-ltb}
use Rattle.sets.specs.Tests.{Set, some_below}
use Rattle.sets.proofs.Bools.{bif}
use Rattle.sets.proofs.Tests.{some-get, some-no}
use Rattle.graph_walks.proofs.Sums.{has-place}

-- ---- of n + 1 numbers below n two are equal

-- the numbers but p, closed up
unfoldable squash : ℕ → ℕ → ℕ
squash p v = cond (ltb p v) (v - 1) v

squash-above : (p v : ℕ) → p < v → squash p v ≡ v - 1
unfolding squash
squash-above p v l = rw (lt-ltb p v l)

squash-below : (p v : ℕ) → v ≤ p → squash p v ≡ v
unfolding squash
squash-below p v l = rw (le-ltb p v l)

squash-low : (n p v : ℕ) → p < suc n → v < suc n → (v ≡ p → ⊥) → squash p v < n
squash-low n p v a b d =
    by_cases (dec_lt p v) (λ l. let e = squash-above p v l in omega arith)
    (λ l. let e = squash-below p v (omega arith) in omega arith)

squash-same : (p u v : ℕ) → (u ≡ p → ⊥) → (v ≡ p → ⊥) → squash p u ≡ squash p v → u ≡ v
squash-same p u v a b e =
    by_cases (dec_lt p u)
    (λ l. let f = squash-above p u l in by_cases (dec_lt p v) (λ m. let g = squash-above p v m in omega arith) (λ m. let g = squash-below p v (omega arith) in omega arith))
    (λ l. let f = squash-below p u (omega arith) in by_cases (dec_lt p v) (λ m. let g = squash-above p v m in omega arith) (λ m. let g = squash-below p v (omega arith) in omega arith))

abbrev same : (ℕ → ℕ) → ℕ → Set
same f p k = eqb (f k) p

pub pigeonhole : (n : ℕ) (f : ℕ → ℕ) → ((k : ℕ) → k < suc n → f k < n) → (a b : ℕ) × (a < b) × (b < suc n) × (f a ≡ f b)
pigeonhole zero f low = absurd (omega (arith, low 0 (omega arith)))
pigeonhole (suc n) f low =
    bif (some_below (suc n) (same f (f (suc n))))
    (λ t. let k = some-get (suc n) (same f (f (suc n))) t in (k.0, suc n, k.1, omega arith, eqb-true (f k.0) (f (suc n)) k.2))
    (λ t. let other : (k : ℕ) → k < suc n → f k ≡ f (suc n) → ⊥ = λ k l. eqb-false (f k) (f (suc n)) (some-no (suc n) (same f (f (suc n))) t k l) in
    let r = pigeonhole n (λ k. squash (f (suc n)) (f k)) (λ k l. squash-low n (f (suc n)) (f k) (low (suc n) (omega arith)) (low k (omega arith)) (other k l)) in
    (r.0, r.1, r.2, omega (arith, r.3), squash-same (f (suc n)) (f r.0) (f r.1) (other r.0 (omega (arith, r.2, r.3))) (other r.1 r.3) r.4))

-- ---- the walk

-- steps of some kind that come again and again, at numbers below n: two of them have the same number
module _ (n : ℕ) (z : ℕ → ℕ) (Kind : ℕ → Type 0) (again : (i : ℕ) → (j : ℕ) × (i < j) × Kind j) (low : (j : ℕ) → Kind j → z j < n) where
  abbrev visit : ℕ → ℕ
  visit zero = (again 0).0
  visit (suc k) = (again (visit k)).0

  visit-kind : (k : ℕ) → Kind (visit k)
  visit-kind zero = (again 0).2
  visit-kind (suc k) = (again (visit k)).2

  visit-later : (a b : ℕ) → a < b → visit a < visit b
  visit-later a zero l = absurd (omega arith)
  visit-later a (suc b) l =
      let n = (again (visit b)).1 in
      by_cases (ℕ_discrete a b) (λ e. rw e n) (λ e. omega (arith, visit-later a b (omega arith), n))

  pub comes_back : (i j : ℕ) × (i < j) × (z i ≡ z j) × Kind i × Kind j
  comes_back =
      let (a, b, l, m, e) = pigeonhole n (λ k. z (visit k)) (λ k l. low (visit k) (visit-kind k)) in
      (visit a, visit b, visit-later a b l, e, visit-kind a, visit-kind b)

pub closes : (marks : List ℕ) (z : ℕ → ℕ) → ((i : ℕ) → (j : ℕ) × (i < j) × (1 < get_or marks (z j) 0)) → (i j : ℕ) × (i < j) × (z i ≡ z j) × (1 < get_or marks (z i) 0)
closes marks z again =
    let (i, j, l, e, a, b) = comes_back (length marks) z (λ j. 1 < get_or marks (z j) 0) again (λ j h. has-place marks (z j) (omega arith)) in
    (i, j, l, e, a)
