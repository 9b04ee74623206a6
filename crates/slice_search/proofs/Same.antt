-- The test of equality is equality.
use mathlib.Core.Path.{◌≡◌, refl, sym, ◌∙◌, ap, ap₂}
use mathlib.Core.Logic.{◌↔◌}
use mathlib.Core.Bool.{Bool, true, false, false≢true}
use mathlib.Core.List.{List, [], ◌∷◌}
use Prim.Native.Nat.{ℕ}
use lib.Dec.{eqb}
use borrow.Author.Tests.{eqb-true, eq-eqb}
use Rattle.sets.proofs.Bools.{iff, and_l, and_r, and_i}
use Rattle.slice_search.specs.Same.{same_lists}

-- "GO" and itself, "G!", no list
examples : (same_lists (71 ∷ (79 ∷ [])) (71 ∷ (79 ∷ [])) ≡ true)
    × (same_lists (71 ∷ (79 ∷ [])) (71 ∷ (33 ∷ [])) ≡ false)
    × (same_lists (71 ∷ (79 ∷ [])) [] ≡ false)
    × (same_lists [] (71 ∷ (79 ∷ [])) ≡ false)
    × (same_lists [] [] ≡ true)
unfolding same_lists
examples = (refl, refl, refl, refl, refl)

pub lists-equal : (xs ys : List ℕ) → same_lists xs ys ≡ true → xs ≡ ys
unfolding same_lists
lists-equal [] [] e = refl
lists-equal [] (y ∷ ys) e = absurd (false≢true e)
lists-equal (x ∷ xs) [] e = absurd (false≢true e)
lists-equal (x ∷ xs) (y ∷ ys) e =
    ap₂ ◌∷◌ (eqb-true x y (and_l (eqb x y) (same_lists xs ys) e)) (lists-equal xs ys (and_r (eqb x y) (same_lists xs ys) e))

pub lists-refl : (xs : List ℕ) → same_lists xs xs ≡ true
unfolding same_lists
lists-refl [] = refl
lists-refl (x ∷ xs) = and_i (eq-eqb x x refl) (lists-refl xs)

pub lists-iff : (xs ys : List ℕ) → (same_lists xs ys ≡ true) ↔ (xs ≡ ys)
lists-iff xs ys = (lists-equal xs ys, λ p. ap (same_lists xs) (sym p) ∙ lists-refl xs)

-- an answer that tells equality is the test's
pub lists-told : (b : Bool) (xs ys : List ℕ) → (b ≡ true → xs ≡ ys) → (xs ≡ ys → b ≡ true) → b ≡ same_lists xs ys
lists-told b xs ys f g = iff b (same_lists xs ys) (λ e. (lists-iff xs ys).1 (f e)) (λ e. g (lists-equal xs ys e))
