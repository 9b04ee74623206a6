-- The laws of marking: marks only grow, something is marked or nothing is left to mark, and only what has a walk to an accepting node is marked.
use mathlib.Core.Path.{◌≡◌, refl, sym, ◌∙◌}
use mathlib.Core.Logic.{◌⊎◌, inl, inr, ⊎_elim, by_cases}
use mathlib.Core.Bool.{Bool, true, false, ◌||◌, true≢false, false≢true}
use mathlib.Core.List.{List, [], ◌∷◌}
use Prim.Native.Nat.{ℕ, ◌+◌, ◌≤◌, ◌<◌}
use native.Mathlib.Omega.{arith}
use native.Mathlib.Decide.{dec_lt}
use lib.Dec.{eqb, ltb}
use lib.ListN.{length, get_or, set, length-set}
use borrow.Author.Tests.{ltb-true, lt-ltb, eqb-true, eqb-false}
use Rattle.sets.specs.Lists.{sum}
use Rattle.sets.proofs.Bools.{bif, clash, and_l, and_r, and_i, or_cases, or-fl, or-fr}
use Rattle.graph_walks.specs.Walks.{Toward}
use Rattle.graph_walks.specs.Marks.{is_due, marked, is_new}
use Rattle.graph_walks.specs.Rounds.{Marking}
use Rattle.graph_walks.proofs.Sums.{split-set, has-place, sum-set, sum-le}

-- ---- examples: an edge from node 0 to node 1

accepting-for-accepting : (marked 0 1 (2 ∷ 2 ∷ []) ≡ 4 ∷ 2 ∷ []) × (is_new 0 1 (2 ∷ 2 ∷ []) ≡ false)
unfolding is_due marked is_new
accepting-for-accepting = (refl, refl)

for-accepting : (marked 0 1 (1 ∷ 2 ∷ []) ≡ 3 ∷ 2 ∷ []) × (is_new 0 1 (1 ∷ 2 ∷ []) ≡ true)
unfolding is_due marked is_new
for-accepting = (refl, refl)

for-marked : marked 0 1 (1 ∷ 3 ∷ []) ≡ 3 ∷ 3 ∷ []
unfolding is_due marked
for-marked = refl

-- the target is neither accepting nor marked; the source is out; the source is marked already
not-marked : (marked 0 1 (2 ∷ 1 ∷ []) ≡ 2 ∷ 1 ∷ []) × (marked 0 1 (0 ∷ 2 ∷ []) ≡ 0 ∷ 2 ∷ []) × (marked 0 1 (3 ∷ 2 ∷ []) ≡ 3 ∷ 2 ∷ [])
unfolding is_due marked
not-marked = (refl, refl, refl)

-- ---- one edge

pub record Due (x y : ℕ) (ms : List ℕ) : Type 0 where
  pub known : 1 < get_or ms y 0
  pub member : 0 < get_or ms x 0
  pub free : get_or ms x 0 < 3

module _ (x y : ℕ) (ms : List ℕ) where
  due-yes : Due x y ms → is_due x y ms ≡ true
  unfolding is_due
  due-yes d = and_i (lt-ltb 1 (get_or ms y 0) d.known) (and_i (lt-ltb 0 (get_or ms x 0) d.member) (lt-ltb (get_or ms x 0) 3 d.free))

  due-facts : is_due x y ms ≡ true → Due x y ms
  unfolding is_due
  due-facts e =
      let r = and_r (ltb 1 (get_or ms y 0)) _ e in
      record {
        known = ltb-true 1 (get_or ms y 0) (and_l (ltb 1 (get_or ms y 0)) _ e);
        member = ltb-true 0 (get_or ms x 0) (and_l (ltb 0 (get_or ms x 0)) _ r);
        free = ltb-true (get_or ms x 0) 3 (and_r (ltb 0 (get_or ms x 0)) _ r);
      }

  -- x is marked and not accepting, marked and accepting, or not to be marked
  marked-cases : (C : List ℕ → Bool → Type 0)
      → (Due x y ms → get_or ms x 0 ≡ 1 → C (set ms x (get_or ms x 0 + 2)) true)
      → (Due x y ms → 1 < get_or ms x 0 → C (set ms x (get_or ms x 0 + 2)) false)
      → ((Due x y ms → ⊥) → C ms false)
      → C (marked x y ms) (is_new x y ms)
  unfolding marked is_new
  marked-cases C f g h =
      bif (is_due x y ms)
      (λ t. let d = due-facts t in bif (eqb (get_or ms x 0) 1) (λ e. rw (t, e) (f d (eqb-true (get_or ms x 0) 1 e)))
      (λ e. let k = eqb-false (get_or ms x 0) 1 e in rw (t, e) (g d (omega (arith, d.member)))))
      (λ t. rw t (h (λ d. clash (due-yes d) t)))

  pub mark-yes : Due x y ms → (set ms x (get_or ms x 0 + 2) ≡ marked x y ms) × (eqb (get_or ms x 0) 1 ≡ is_new x y ms)
  unfolding marked is_new
  mark-yes d = let t = due-yes d in (rw t, rw t)

  pub mark-no : (Due x y ms → ⊥) → (ms ≡ marked x y ms) × (false ≡ is_new x y ms)
  unfolding marked is_new
  mark-no n = bif (is_due x y ms) (λ t. absurd (n (due-facts t))) (λ t. (rw t, rw t))

-- ---- edges one after another: A holds of those that were tried

pub record Round (A : ℕ → ℕ → Type 0) (old new : List ℕ) (changed : Bool) : Type 0 where
  pub long : length new ≡ length old
  pub more : (x : ℕ) → get_or old x 0 ≤ get_or new x 0
  pub still : changed ≡ false → (y : ℕ) → 1 < get_or new y 0 → 1 < get_or old y 0
  pub closed : (x y : ℕ) → A x y → 1 < get_or old y 0 → 0 < get_or old x 0 → 2 < get_or new x 0
  pub grown : changed ≡ true → sum old < sum new

pub round-none : (A : ℕ → ℕ → Type 0) → ((x y : ℕ) → A x y → ⊥) → (ms : List ℕ) → Round A ms ms false
round-none A n ms = record { long = refl; more = λ x. omega arith; still = λ e y h. h; closed = λ x y a. absurd (n x y a); grown = λ e. absurd (false≢true e) }

pub round-one : (x y : ℕ) (ms : List ℕ) → Round (λ u v. (u ≡ x) × (v ≡ y)) ms (marked x y ms) (is_new x y ms)
round-one x y ms = marked-cases x y ms (λ l b. Round (λ u v. (u ≡ x) × (v ≡ y)) ms l b)
    (λ d e. let p = has-place ms x d.member in record {
      long = length-set ms x (get_or ms x 0 + 2);
      more = more d;
      still = λ f. absurd (true≢false f);
      closed = λ u v a h k. closed d u a.0;
      grown = λ f. let s = sum-set ms x (get_or ms x 0 + 2) p in omega arith;
    })
    (λ d e. record {
      long = length-set ms x (get_or ms x 0 + 2);
      more = more d;
      still = λ f z. split-set (λ i v. 1 < v → 1 < get_or ms i 0) ms x (get_or ms x 0 + 2) (has-place ms x d.member) (λ h. e) (λ j n h. h) z;
      closed = λ u v a h k. closed d u a.0;
      grown = λ f. absurd (false≢true f);
    })
    (λ n. record {
      long = refl;
      more = λ z. omega arith;
      still = λ f z h. h;
      closed = λ u v a h k. by_cases (dec_lt 2 (get_or ms u 0)) (λ l. l)
          (λ l. absurd (n (record { known = rw (← a.1) h; member = rw (← a.0) k; free = rw (← a.0) (omega arith) })));
      grown = λ f. absurd (false≢true f);
    })
  where
    more : Due x y ms → (z : ℕ) → get_or ms z 0 ≤ get_or (set ms x (get_or ms x 0 + 2)) z 0
    more d = split-set (λ i v. get_or ms i 0 ≤ v) ms x (get_or ms x 0 + 2) (has-place ms x d.member) (omega arith) (λ j n. omega arith)

    closed : Due x y ms → (u : ℕ) → u ≡ x → 2 < get_or (set ms x (get_or ms x 0 + 2)) u 0
    closed d = split-set (λ i v. i ≡ x → 2 < v) ms x (get_or ms x 0 + 2) (has-place ms x d.member) (λ e. omega (arith, d.member)) (λ j n e. absurd (n e))

-- of fewer edges
pub round-of : (A B : ℕ → ℕ → Type 0) → ((x y : ℕ) → B x y → A x y) → (old new : List ℕ) (changed : Bool) → Round A old new changed → Round B old new changed
round-of A B s old new changed r = record { long = r.long; more = r.more; still = r.still; closed = λ x y t. r.closed x y (s x y t); grown = r.grown }

pub round-then : (A B C : ℕ → ℕ → Type 0) → ((x y : ℕ) → C x y → A x y ⊎ B x y) → (old mid new : List ℕ) (a b : Bool) → Round A old mid a → Round B mid new b → Round C old new (a || b)
round-then A B C s old mid new a b r q = record {
  long = q.long ∙ r.long;
  more = λ x. omega (arith, r.more x, q.more x);
  still = λ e y h. r.still (or-fl a b e) y (q.still (or-fr a b e) y h);
  closed = λ x y c h k. ⊎_elim (λ t. omega (arith, r.closed x y t h k, q.more x)) (λ t. q.closed x y t (omega (arith, r.more y)) (omega (arith, r.more x))) (s x y c);
  grown = λ e. let f = sum-le old mid (sym r.long) r.more in let g = sum-le mid new (sym q.long) q.more in
      ⊎_elim (λ t. omega (arith, r.grown t)) (λ t. omega (arith, q.grown t)) (or_cases a b e);
}

-- ---- only what has a walk to an accepting node is marked

module _ (E : ℕ → ℕ → Type 0) (b : List ℕ) where
  pub marking-start : Marking E b b
  marking-start = record { long = refl; each = λ x. inl refl }

  pub marking-one : (x y : ℕ) → E x y → (ms : List ℕ) → Marking E b ms → Marking E b (marked x y ms)
  marking-one x y e ms m = marked-cases x y ms (λ l c. Marking E b l) (λ d k. step d) (λ d k. step d) (λ n. m)
    where
      toward : 1 < get_or ms y 0 → Toward E b x
      toward h = ⊎_elim (λ s. Toward.arrives y e (omega arith)) (λ s. Toward.passes y e s.1 s.2) (m.each y)

      here : Due x y ms → (get_or ms x 0 + 2 ≡ get_or b x 0) ⊎ ((get_or ms x 0 + 2 ≡ get_or b x 0 + 2) × (0 < get_or b x 0) × Toward E b x)
      here d = ⊎_elim (λ s. inr (omega arith, omega (arith, d.member), toward d.known)) (λ s. absurd (omega (arith, d.free))) (m.each x)

      step : Due x y ms → Marking E b (set ms x (get_or ms x 0 + 2))
      step d = record {
        long = length-set ms x (get_or ms x 0 + 2) ∙ m.long;
        each = split-set (λ i v. (v ≡ get_or b i 0) ⊎ ((v ≡ get_or b i 0 + 2) × (0 < get_or b i 0) × Toward E b i)) ms x (get_or ms x 0 + 2)
            (has-place ms x d.member) (here d) (λ j n. m.each j);
      }
