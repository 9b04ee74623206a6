-- Marks one by one, and their sum.
use mathlib.Core.Path.{◌≡◌}
use mathlib.Core.Logic.{by_cases}
use mathlib.Core.List.{List, [], ◌∷◌}
use Prim.Native.Nat.{ℕ, zero, suc, ◌+◌, ◌*◌, ◌≤◌, ◌<◌}
use native.Mathlib.Omega.{arith}
use native.Mathlib.Decide.{ℕ_discrete, dec_lt}
use lib.ListN.{length, get_or, set, get_or-eq_default}
use lib.Seq.{get_or-set_same, get_or-set_other}
use Rattle.sets.specs.Lists.{sum}

-- what holds at place p of a new mark, and elsewhere of the old ones
pub split-set : (Q : ℕ → ℕ → Type 0) (ms : List ℕ) (p v : ℕ) → p < length ms → Q p v → ((j : ℕ) → (j ≡ p → ⊥) → Q j (get_or ms j 0)) → (j : ℕ) → Q j (get_or (set ms p v) j 0)
split-set Q ms p v l a b j = by_cases (ℕ_discrete j p) (λ e. rw (e, get_or-set_same ms p v 0 l) a) (λ e. rw (get_or-set_other ms p j v 0 e) (b j e))

-- there is a mark where one is not 0
pub has-place : (ms : List ℕ) (x : ℕ) → 0 < get_or ms x 0 → x < length ms
has-place ms x h = by_cases (dec_lt x (length ms)) (λ l. l) (λ l. let e = get_or-eq_default ms 0 {n = x} (omega arith) in absurd (omega arith))

pub sum-set : (ms : List ℕ) (p v : ℕ) → p < length ms → sum (set ms p v) + get_or ms p 0 ≡ sum ms + v
unfolding sum
sum-set [] p v l = absurd (omega arith)
sum-set (m ∷ ms) zero v l = omega arith
sum-set (m ∷ ms) (suc p) v l = let ih = sum-set ms p v (omega arith) in omega arith

pub sum-most : (ms : List ℕ) → ((x : ℕ) → get_or ms x 0 ≤ 4) → sum ms ≤ 4 * length ms
unfolding sum
sum-most [] h = omega arith
sum-most (m ∷ ms) h = let ih = sum-most ms (λ x. h (suc x)) in omega (arith, h 0)

pub sum-le : (ms ns : List ℕ) → length ms ≡ length ns → ((x : ℕ) → get_or ms x 0 ≤ get_or ns x 0) → sum ms ≤ sum ns
unfolding sum
sum-le [] [] e h = omega arith
sum-le [] (n ∷ ns) e h = omega arith
sum-le (m ∷ ms) [] e h = absurd (omega arith)
sum-le (m ∷ ms) (n ∷ ns) e h = let ih = sum-le ms ns (omega arith) (λ x. h (suc x)) in omega (arith, h 0)

pub sum_lt : (ms ns : List ℕ) → length ms ≡ length ns → ((x : ℕ) → get_or ms x 0 ≤ get_or ns x 0) → (x : ℕ) → get_or ms x 0 < get_or ns x 0 → sum ms < sum ns
unfolding sum
sum_lt [] [] e h x l = absurd (omega arith)
sum_lt [] (n ∷ ns) e h x l = absurd (omega arith)
sum_lt (m ∷ ms) [] e h x l = absurd (omega arith)
sum_lt (m ∷ ms) (n ∷ ns) e h zero l = let ih = sum-le ms ns (omega arith) (λ x. h (suc x)) in omega (arith, h 0)
sum_lt (m ∷ ms) (n ∷ ns) e h (suc x) l = let ih = sum_lt ms ns (omega arith) (λ x. h (suc x)) x l in omega (arith, h 0)
