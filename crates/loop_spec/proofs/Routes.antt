-- The route is the least list that leads on as wanted.
use mathlib.Core.Path.{◌≡◌, refl, sym, ap}
use mathlib.Core.Logic.{by_cases}
use mathlib.Core.Bool.{Bool, true, ◌&&◌, ◌||◌}
use mathlib.Core.List.{List, [], ◌∷◌}
use Prim.Native.Nat.{ℕ, zero, suc, ◌<◌, ◌≤◌}
use native.Mathlib.Omega.{arith}
use native.Mathlib.Decide.{dec_lt}
use lib.Dec.{eqb, ltb}
use lib.ListN.{length}
use borrow.Author.Tests.{eq-eqb, lt-ltb}
use Rattle.sets.specs.Tests.{Set, first}
use Rattle.sets.proofs.Bools.{and_l, and_r, and_i, or_l, or_r}
use Rattle.sets.proofs.Tests.{first-at, first-le}
use Rattle.loop_spec.specs.Loops.{at_most}
use Rattle.loop_spec.specs.Search.{leads_by, route}
use Rattle.loop_spec.proofs.Masks.{can, Goes, can-walk, walk_can, goes_parts, goes-cons}

module _ (n : ℕ) (es : List ℕ) (other : Set) (t : ℕ) (l : t < n) where
  -- the states may follow q, and no list of their number that may is less
  pub record Best (k : ℕ) (passed : Bool) (q : ℕ) (ps : List ℕ) : Type 0 where
    pub long : length ps ≡ k
    pub goes : Goes n es other t l passed q ps
    pub least : (qs : List ℕ) → length qs ≡ k → Goes n es other t l passed q qs → at_most ps qs ≡ true

  -- the test for the next state
  abbrev pub next : ℕ → Bool → ℕ → Set
  next k passed q p = leads_by es q p && can n es other t l k (passed || other q) p

  -- the first of the states that may follow q
  pub next-state : (k : ℕ) (passed : Bool) (q : ℕ) → q < n → (ps : List ℕ) → length ps ≡ suc k → Goes n es other t l passed q ps
      → (p : ℕ) × (p < n) × (next k passed q p ≡ true)
  next-state k passed q m [] h g = absurd (omega arith)
  next-state k passed q m (p ∷ ps) h g =
      let (s, e, r) = goes_parts n es other t l passed q p ps g in
      let j : length ps ≡ k = omega arith in
      (p, s, and_i e (rw j at (walk_can n es other t l (passed || other q) p ps s r)))

  -- a list that begins with the smallest state that may follow, and goes on with the least
  least-next : (k : ℕ) (passed : Bool) (q p : ℕ) (ps : List ℕ) → ((x : ℕ) → next k passed q x ≡ true → p ≤ x) → Best k (passed || other q) p ps → q < n
      → (qs : List ℕ) → length qs ≡ suc k → Goes n es other t l passed q qs → at_most (p ∷ ps) qs ≡ true
  unfolding at_most
  least-next k passed q p ps low b m [] h g = absurd (omega arith)
  least-next k passed q p ps low b m (x ∷ qs) h g =
      let (s, e, r) = goes_parts n es other t l passed q x qs g in
      let j : length qs ≡ k = omega arith in
      let le = low x (and_i e (rw j at (walk_can n es other t l (passed || other q) x qs s r))) in
      by_cases (dec_lt p x)
      (λ y. or_l (ltb p x) (eqb p x && at_most ps qs) (lt-ltb p x y))
      (λ y. let i : x ≡ p = omega arith in or_r (ltb p x) (eqb p x && at_most ps qs) (and_i (eq-eqb p x (sym i)) (b.least qs j (rw i at r))))

  empty : (ps : List ℕ) → length ps ≡ 0 → ps ≡ []
  empty [] h = refl
  empty (p ∷ ps) h = absurd (omega arith)

  pub best : (k : ℕ) (passed : Bool) (q : ℕ) → q < n → can n es other t l k passed q ≡ true
      → (ps : List ℕ) × (route n es other t k passed q ≡ q ∷ ps) × Best k passed q ps
  unfolding route at_most
  best zero passed q m e =
      let w = can-walk n es other t l zero passed q m e in
      ([], refl, record { long = refl; goes = rw (empty w.0 w.1) at w.2; least = λ qs h g. refl })
  best (suc k) passed q m e =
      let w = can-walk n es other t l (suc k) passed q m e in let s = next-state k passed q m w.0 w.1 w.2 in
      let p = first n (next k passed q) 0 in
      let f = first-at n (next k passed q) 0 s.0 (omega arith) (omega (arith, s.1)) s.2 in
      let j : p < n = omega (arith, s.1, first-le n (next k passed q) 0 s.0 (omega arith) s.2) in
      let b = best k (passed || other q) p j (and_r (leads_by es q p) (can n es other t l k (passed || other q) p) f) in (
        p ∷ b.0,
        ap (λ (ps : List ℕ). q ∷ ps) b.1,
        record {
          long = ap suc b.2.long;
          goes = goes-cons n es other t l passed q p b.0 j (and_l (leads_by es q p) (can n es other t l k (passed || other q) p) f) b.2.goes;
          least = least-next k passed q p b.0 (λ x h. first-le n (next k passed q) 0 x (omega arith) h) b.2 m;
        },
      )
