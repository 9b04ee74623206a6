-- The test whether a list ascends strictly.
use mathlib.Core.Path.{◌≡◌, refl, sym, ◌∙◌, ap}
use mathlib.Core.Bool.{true, false, ◌&&◌}
use mathlib.Core.List.{List, [], ◌∷◌}
use Prim.Native.Nat.{ℕ, suc, ◌+◌, ◌≤◌, ◌<◌}
use native.Mathlib.Omega.{arith}
use native.Mathlib.Numerals.{add-one}
use lib.Dec.{ltb}
use lib.ListN.{length, get_or, take, drop, drop_of_length-le}
use lib.Seq.{get_or-take, length-take-le, drop-cons}
use borrow.Author.Tests.{ltb-true, lt-ltb, le-ltb}
use Rattle.sets.specs.Lists.{Above, end, more, Ascending, none, from}
use Rattle.sets.proofs.Bools.{and_l, and_r, and_i}
use Rattle.slice_search.specs.Places.{ascends, ascends_from}

-- ---- the test and the data type say the same

from-above : (x : ℕ) (ys : List ℕ) → ascends_from x ys ≡ true → Above x ys
unfolding ascends_from
from-above x [] e = end
from-above x (y ∷ ys) e = more (ltb-true x y (and_l (ltb x y) (ascends_from y ys) e)) (from-above y ys (and_r (ltb x y) (ascends_from y ys) e))

above_from : (x : ℕ) (ys : List ℕ) → Above x ys → ascends_from x ys ≡ true
unfolding ascends_from
above_from x [] a = refl
above_from x (y ∷ ys) (more h a) = and_i (lt-ltb x y h) (above_from y ys a)

pub ascends-asc : (xs : List ℕ) → ascends xs ≡ true → Ascending xs
unfolding ascends ascends_from
ascends-asc [] e = none
ascends-asc (x ∷ xs) e = from (from-above x xs e)

pub asc-ascends : (xs : List ℕ) → Ascending xs → ascends xs ≡ true
unfolding ascends ascends_from
asc-ascends [] a = refl
asc-ascends (x ∷ xs) (from a) = above_from x xs a

-- ---- one turn of the loop

pub ascends_none : (xs : List ℕ) (n : ℕ) → n ≡ 0 → true ≡ ascends (take n xs)
unfolding ascends
ascends_none xs n e = rw e

ascends-cons : (l : List ℕ) → 0 < length l → ascends l ≡ ascends_from (get_or l 0 0) (drop 1 l)
unfolding ascends ascends_from
ascends-cons [] h = absurd (omega arith)
ascends-cons (x ∷ xs) h = refl

from_cons : (x y : ℕ) (ys : List ℕ) → ascends_from x (y ∷ ys) ≡ ltb x y && ascends_from y ys
unfolding ascends_from
from_cons x y ys = refl

from-nil : (x : ℕ) → ascends_from x [] ≡ true
unfolding ascends_from
from-nil x = refl

module _ (xs : List ℕ) (n : ℕ) (fits : n ≤ length xs) where
  pub ascends-start : 0 < n → ascends (take n xs) ≡ ascends_from (get_or xs 0 0) (drop 1 (take n xs))
  ascends-start h = ascends-cons (take n xs) (omega (arith, length-take-le n xs fits)) ∙ rw (get_or-take n xs 0 0 h)

  turn : (x i : ℕ) → i < n → ascends_from x (drop i (take n xs)) ≡ ltb x (get_or xs i 0) && ascends_from (get_or xs i 0) (drop (i + 1) (take n xs))
  turn x i h =
      let l : i < length (take n xs) = omega (arith, length-take-le n xs fits) in
      rw (add-one i, drop-cons (take n xs) i 0 l, get_or-take n xs i 0 h) (from_cons x (get_or xs i 0) (drop (suc i) (take n xs)))

  pub ascends-on : (x i : ℕ) → i < n → x < get_or xs i 0 → ascends (take n xs) ≡ ascends_from x (drop i (take n xs)) → ascends (take n xs) ≡ ascends_from (get_or xs i 0) (drop (i + 1) (take n xs))
  ascends-on x i h l e = e ∙ turn x i h ∙ rw (lt-ltb x (get_or xs i 0) l)

  pub ascends-not : (x i : ℕ) → i < n → get_or xs i 0 ≤ x → ascends (take n xs) ≡ ascends_from x (drop i (take n xs)) → false ≡ ascends (take n xs)
  ascends-not x i h l e = sym (e ∙ turn x i h ∙ rw (le-ltb x (get_or xs i 0) l))

  pub ascends-end : (x i : ℕ) → n ≤ i → ascends (take n xs) ≡ ascends_from x (drop i (take n xs)) → true ≡ ascends (take n xs)
  ascends-end x i h e =
      let l : length (take n xs) ≤ i = omega (arith, length-take-le n xs fits) in
      sym (e ∙ ap (ascends_from x) (drop_of_length-le (take n xs) l) ∙ from-nil x)
