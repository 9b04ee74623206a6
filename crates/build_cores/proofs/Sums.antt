-- Ranks summed by components are the ranks of all states.
use mathlib.Core.Path.{◌≡◌, refl, ap, sym, ◌∙◌}
use mathlib.Core.Logic.{by_cases}
use mathlib.Core.Bool.{◌&&◌, cond}
use Prim.Native.Nat.{ℕ, zero, suc, ◌+◌, ◌*◌, ◌<◌}
use native.Mathlib.Omega.{arith}
use native.Mathlib.Decide.{dec_lt, ℕ_discrete}
use lib.Dec.{eqb, ltb}
use borrow.Author.Tests.{eq-eqb, ne_eqb, lt-ltb, le-ltb}
use Rattle.sets.specs.Tests.{Set}
use Rattle.sets.specs.Digits.{num}
use Rattle.sets.proofs.Bools.{bif}
use Rattle.sets.proofs.Digits.{num-ext, num-add}
use Rattle.build_cores.specs.Used.{sum_of}

pub num-nothing : num 16 8 (λ q. 0) ≡ 0
unfolding num
num-nothing = refl

pub sum-ext : (n : ℕ) (f g : ℕ → ℕ) → ((c : ℕ) → c < n → f c ≡ g c) → sum_of n f ≡ sum_of n g
unfolding sum_of
sum-ext zero f g h = refl
sum-ext (suc n) f g h = rw (sum-ext n f g (λ c l. h c (omega arith)), h n (omega arith))

-- ranks summed by components are the ranks of all states
pub sum-ranks : (C : ℕ) (component : ℕ → ℕ) (inside : Set) (rank : ℕ → ℕ)
    → sum_of C (λ c. num 16 8 (λ q. cond (inside q && eqb (component q) c) (rank q) 0)) ≡ num 16 8 (λ q. cond (inside q && ltb (component q) C) (rank q) 0)
unfolding sum_of
sum-ranks zero component inside rank = sym (num-ext 16 (omega arith) 8 _ (λ q. 0) (λ q h. bif (inside q) (λ t. rw (t, le-ltb (component q) 0 (omega arith))) (λ t. rw t)) ∙ num-nothing)
sum-ranks (suc C) component inside rank =
    ap (λ (x : ℕ). x + num 16 8 (λ q. cond (inside q && eqb (component q) C) (rank q) 0)) (sum-ranks C component inside rank)
    ∙ (let z : num 16 8 (λ q. cond (inside q && ltb (component q) C) (rank q) 0) + num 16 8 (λ q. cond (inside q && eqb (component q) C) (rank q) 0)
    ≡ num 16 8 (λ q. cond (inside q && ltb (component q) C) (rank q) 0) + num 16 8 (λ q. cond (inside q && eqb (component q) C) (rank q) 0) * 1 = omega arith in z)
    ∙ num-add 16 8 (λ q. cond (inside q && ltb (component q) C) (rank q) 0) (λ q. cond (inside q && eqb (component q) C) (rank q) 0) 1
    ∙ num-ext 16 (omega arith) 8 _ _ (λ q h. bif (inside q)
    (λ t. rw t (by_cases (dec_lt (component q) C)
    (λ u. rw (lt-ltb (component q) C u, lt-ltb (component q) (suc C) (omega arith), ne_eqb (component q) C (omega arith)) (omega arith))
    (λ u. by_cases (ℕ_discrete (component q) C)
    (λ v. rw (le-ltb (component q) C (omega arith), lt-ltb (component q) (suc C) (omega arith), eq-eqb (component q) C v) (omega arith))
    (λ v. rw (le-ltb (component q) C (omega arith), le-ltb (component q) (suc C) (omega arith), ne_eqb (component q) C v) (omega arith)))))
    (λ t. rw t (omega arith)))
