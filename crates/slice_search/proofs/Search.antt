-- The place of a number in an ascending list.
use mathlib.Core.Path.{◌≡◌, refl, sym, ◌∙◌, ap}
use mathlib.Core.Logic.{⊎_elim, by_cases}
use mathlib.Core.List.{List, [], ◌∷◌}
use Prim.Native.Nat.{ℕ, zero, suc, ◌+◌, ◌≤◌, ◌<◌}
use native.Mathlib.Omega.{arith}
use native.Mathlib.Nat.{eq-or-lt_of_le}
use native.Mathlib.Decide.{dec_lt}
use lib.ListN.{length, get_or}
use borrow.Author.Tests.{lt-ltb, le-ltb}
use Rattle.sets.specs.Lists.{Above, more, Ascending, from}
use Rattle.sets.proofs.Ascending.{above-asc, above_at, asc-at}
use Rattle.slice_search.specs.Places.{below}

-- ---- the number of members below x

below-yes : (x y : ℕ) (ys : List ℕ) → y < x → below x (y ∷ ys) ≡ suc (below x ys)
unfolding below
below-yes x y ys h = rw (lt-ltb y x h) (omega arith)

below-no : (x y : ℕ) (ys : List ℕ) → x ≤ y → below x (y ∷ ys) ≡ below x ys
unfolding below
below-no x y ys h = rw (le-ltb y x h) (omega arith)

pub below-le : (x : ℕ) (ys : List ℕ) → below x ys ≤ length ys
unfolding below
below-le x [] = omega arith
below-le x (y ∷ ys) = by_cases (dec_lt y x) (λ h. omega (arith, below-yes x y ys h, below-le x ys)) (λ h. omega (arith, below-no x y ys (omega arith), below-le x ys))

pub below-mono : (x z : ℕ) (ys : List ℕ) → x ≤ z → below x ys ≤ below z ys
unfolding below
below-mono x z [] h = omega arith
below-mono x z (y ∷ ys) h =
    by_cases (dec_lt y x)
    (λ l. omega (arith, below-yes x y ys l, below-yes z y ys (omega arith), below-mono x z ys h))
    (λ l. by_cases (dec_lt y z)
    (λ k. omega (arith, below-no x y ys (omega arith), below-yes z y ys k, below-mono x z ys h))
    (λ k. omega (arith, below-no x y ys (omega arith), below-no z y ys (omega arith), below-mono x z ys h)))

below_none : (x y : ℕ) (ys : List ℕ) → Above y ys → x ≤ y → below x ys ≡ 0
unfolding below
below_none x y [] a h = refl
below_none x y (z ∷ zs) (more g a) h = below-no x z zs (omega arith) ∙ below_none x z zs a (omega arith)

-- members before the place of x are below x
pub before-place : (x : ℕ) (ys : List ℕ) → Ascending ys → (k : ℕ) → k < below x ys → get_or ys k 0 < x
unfolding below
before-place x [] a k h = absurd (omega arith)
before-place x (y ∷ ys) (from a) zero h =
    by_cases (dec_lt y x) (λ l. l) (λ l. absurd (omega (arith, below-no x y ys (omega arith), below_none x y ys a (omega arith))))
before-place x (y ∷ ys) (from a) (suc k) h =
    by_cases (dec_lt y x)
    (λ l. before-place x ys (above-asc a) k (omega (arith, below-yes x y ys l)))
    (λ l. absurd (omega (arith, below-no x y ys (omega arith), below_none x y ys a (omega arith))))

-- those from it on are not
pub from_place : (x : ℕ) (ys : List ℕ) → Ascending ys → (k : ℕ) → below x ys ≤ k → k < length ys → x ≤ get_or ys k 0
unfolding below
from_place x [] a k h l = absurd (omega arith)
from_place x (y ∷ ys) (from a) zero h l = by_cases (dec_lt y x) (λ b. absurd (omega (arith, below-yes x y ys b))) (λ b. omega arith)
from_place x (y ∷ ys) (from a) (suc k) h l =
    by_cases (dec_lt y x)
    (λ b. from_place x ys (above-asc a) k (omega (arith, below-yes x y ys b)) (omega arith))
    (λ b. let g = above_at y ys a k (omega arith) in omega arith)

-- a place with these two properties is that of x
pub place_is : (x : ℕ) (ys : List ℕ) (p : ℕ) → p ≤ length ys → ((k : ℕ) → k < p → get_or ys k 0 < x) → ((k : ℕ) → p ≤ k → k < length ys → x ≤ get_or ys k 0) → p ≡ below x ys
unfolding below
place_is x [] p h b a = omega arith
place_is x (y ∷ ys) zero h b a =
    place_is x ys zero (omega arith) (λ k l. absurd (omega arith)) (λ k l m. a (suc k) (omega arith) (omega arith)) ∙ sym (below-no x y ys (a zero (omega arith) (omega arith)))
place_is x (y ∷ ys) (suc p) h b a =
    ap suc (place_is x ys p (omega arith) (λ k l. b (suc k) (omega arith)) (λ k l m. a (suc k) (omega arith) (omega arith))) ∙ sym (below-yes x y ys (b zero (omega arith)))

-- what one comparison settles
module _ (xs : List ℕ) (x : ℕ) (asc : Ascending xs) (m : ℕ) where
  pub go-up : m < length xs → get_or xs m 0 < x → (k : ℕ) → k < m + 1 → get_or xs k 0 < x
  go-up h l k b =
      let k≤m : k ≤ m = omega arith in
      ⊎_elim (λ (e : k ≡ m). rw e l) (λ (p : k < m). omega (arith, asc-at xs asc k m p h)) (eq-or-lt_of_le k≤m)

  pub go-down : x ≤ get_or xs m 0 → (k : ℕ) → m ≤ k → k < length xs → x ≤ get_or xs k 0
  go-down l k b t = ⊎_elim (λ (e : m ≡ k). rw (← e) l) (λ (p : m < k). omega (arith, asc-at xs asc m k p t)) (eq-or-lt_of_le b)
