-- The search over the states where a loop may begin: the least length so far, and the first state that has it.
use mathlib.Core.Path.{◌≡◌, sym}
use mathlib.Core.Logic.{by_cases}
use mathlib.Core.Bool.{true}
use mathlib.Core.List.{List}
use Prim.Native.Nat.{ℕ, suc, ◌+◌, ◌≤◌, ◌<◌}
use native.Mathlib.Omega.{arith}
use native.Mathlib.Decide.{dec_lt}
use Rattle.sets.specs.Tests.{some_below, first}
use Rattle.sets.specs.Masks.{bit}
use Rattle.sets.proofs.Tests.{first-le, first-max, some_at, some-get}
use Rattle.loop_spec.specs.Search.{others_of_lem, ways, begins, further}
use Rattle.loop_spec.proofs.Reported.{first_found}
use Rattle.loop_search.specs.Begins.{Begins}

-- k is the least of n and of what g gives below t, and at is the first number below t where g gives it
pub record Least (n : ℕ) (g : ℕ → ℕ) (t at k : ℕ) : Type 0 where
  pub bound : k ≤ n
  pub low : (u : ℕ) → u < t → k ≤ g u
  pub hit : k < n → (at < t) × (g at ≡ k) × ((u : ℕ) → u < at → k < g u)

module _ {n : ℕ} {g : ℕ → ℕ} where
  pub least-none : Least n g 0 0 n
  least-none = record { bound = omega arith; low = λ u l. absurd (omega arith); hit = λ l. absurd (omega arith) }

  module _ {t at k v : ℕ} (e : v ≡ g t) (h : Least n g t at k) where
    pub least-less : v < k → Least n g (t + 1) t v
    least-less l = record {
      bound = omega (arith, h.bound);
      low = λ u m. by_cases (dec_lt u t) (λ x. omega (arith, h.low u x)) (λ x. let i : u ≡ t = omega arith in rw i (omega arith));
      hit = λ m. (omega arith, sym e, λ u x. omega (arith, h.low u x));
    }

    pub least_kept : k ≤ v → Least n g (t + 1) at k
    least_kept l = record {
      bound = h.bound;
      low = λ u m. by_cases (dec_lt u t) (h.low u) (λ x. let i : u ≡ t = omega arith in rw i (omega arith));
      hit = λ m. let x = h.hit m in (omega (arith, x.0), x.1, x.2);
    }

-- ---- at the end

module _ (n : ℕ) (es : List ℕ) (accepting : ℕ) where
  -- how many states the shortest mixed loops from t have after t
  abbrev pub from : ℕ → ℕ
  from t = first n (λ k. begins n es accepting k t) 0

  pub from_is : (others t : ℕ) → others ≡ others_of_lem n accepting t → first n (λ k. bit (ways n es (bit others) t (suc k)).mixed t) 0 ≡ from t
  unfolding begins
  from_is others t e = rw e

  from_le : (t k : ℕ) → begins n es accepting k t ≡ true → from t ≤ k
  from_le t k e = first-le n (λ k. begins n es accepting k t) 0 k (omega arith) e

  from_found : (t : ℕ) → from t < n → begins n es accepting (from t) t ≡ true
  from_found t l = first_found n (λ k. begins n es accepting k t) 0 (omega arith)

  module _ (at k : ℕ) (h : Least n from n at k) where
    -- no loop is shorter
    low : k ≤ further n es accepting
    unfolding further
    low =
        by_cases (dec_lt (first n (λ k. some_below n (begins n es accepting k)) 0) k)
        (λ l. let s = some-get n (begins n es accepting (first n (λ k. some_below n (begins n es accepting k)) 0))
        (first_found n (λ k. some_below n (begins n es accepting k)) 0 (omega (arith, h.bound))) in
        absurd (omega (arith, from_le s.0 (first n (λ k. some_below n (begins n es accepting k)) 0) s.2, h.low s.0 s.1)))
        (λ l. omega arith)

    here : k < n → begins n es accepting k at ≡ true
    here l = let x = h.hit l in rw x.1 at (from_found at (rw x.1 l))

    high : further n es accepting ≤ k
    unfolding further
    high =
        by_cases (dec_lt k n)
        (λ l. first-le n (λ k. some_below n (begins n es accepting k)) 0 k (omega arith) (some_at n (begins n es accepting k) at (h.hit l).0 (here l)))
        (λ l. omega (arith, h.bound, first-max n (λ k. some_below n (begins n es accepting k)) 0))

    smallest : k < n → at ≡ first n (begins n es accepting k) 0
    smallest l =
        by_cases (dec_lt (first n (begins n es accepting k) 0) at)
        (λ m. let x = h.hit l in
        let e = first_found n (begins n es accepting k) 0 (omega (arith, x.0)) in
        absurd (omega (arith, from_le (first n (begins n es accepting k) 0) k e, x.2 (first n (begins n es accepting k) 0) m)))
        (λ m. omega (arith, first-le n (begins n es accepting k) 0 at (omega arith) (here l)))

    pub begun : Begins n es accepting (record { at = at; further = k })
    begun = record { length = omega (arith, low, high); smallest = smallest }
