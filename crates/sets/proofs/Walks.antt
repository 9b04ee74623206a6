-- One more element of a list, in the definitions that go through it: what a loop over the list needs at each turn and at its end.
use mathlib.Core.Path.{◌≡◌, sym, ◌∙◌, ap}
use mathlib.Core.Bool.{true, false}
use mathlib.Core.List.{List, ◌∷◌, ◌++◌, []}
use Prim.Native.Nat.{ℕ, ◌+◌, ◌≤◌, ◌<◌}
use native.Mathlib.Numerals.{add-one}
use lib.ListN.{length, drop, get_or, drop_of_length-le, take, set}
use lib.Seq.{drop-cons, take-suc, get_or-set_same, get_or-set_other}
use native.Mathlib.Omega.{arith}
use mathlib.Core.Logic.{by_cases}
use native.Mathlib.Decide.{ℕ_discrete}
use Rattle.sets.specs.Tests.{Set}
use Rattle.sets.specs.Lists.{any_of, all_of, sum}

-- the list from place i on: its element at i, then the list from i + 1 on
pub drop-next : (xs : List ℕ) (i : ℕ) → i < length xs → drop i xs ≡ get_or xs i 0 ∷ drop (i + 1) xs
drop-next xs i h = drop-cons xs i 0 h ∙ ap (λ (n : ℕ). get_or xs i 0 ∷ drop n xs) (sym (add-one i))

pub any_next : (f : Set) (xs : List ℕ) (i : ℕ) → i < length xs → f (get_or xs i 0) ≡ false → any_of (drop i xs) f ≡ any_of (drop (i + 1) xs) f
unfolding any_of
any_next f xs i h e = rw (drop-next xs i h, e, any_of)

pub any-stop : (f : Set) (xs : List ℕ) (i : ℕ) → i < length xs → f (get_or xs i 0) ≡ true → any_of (drop i xs) f ≡ true
unfolding any_of
any-stop f xs i h e = rw (drop-next xs i h, e, any_of)

pub any-end : (f : Set) (xs : List ℕ) (i : ℕ) → length xs ≤ i → any_of (drop i xs) f ≡ false
unfolding any_of
any-end f xs i h = rw (drop_of_length-le xs h)

pub all-next : (f : Set) (xs : List ℕ) (i : ℕ) → i < length xs → f (get_or xs i 0) ≡ true → all_of (drop i xs) f ≡ all_of (drop (i + 1) xs) f
unfolding all_of
all-next f xs i h e = rw (drop-next xs i h, e)

pub all-stop : (f : Set) (xs : List ℕ) (i : ℕ) → i < length xs → f (get_or xs i 0) ≡ false → all_of (drop i xs) f ≡ false
unfolding all_of
all-stop f xs i h e = rw (drop-next xs i h, e)

pub all_end : (f : Set) (xs : List ℕ) (i : ℕ) → length xs ≤ i → all_of (drop i xs) f ≡ true
unfolding all_of
all_end f xs i h = rw (drop_of_length-le xs h)

pub sum-next : (xs : List ℕ) (i : ℕ) → i < length xs → sum (drop i xs) ≡ get_or xs i 0 + sum (drop (i + 1) xs)
unfolding sum
sum-next xs i h = rw (drop-next xs i h)

pub sum-end : (xs : List ℕ) (i : ℕ) → length xs ≤ i → sum (drop i xs) ≡ 0
unfolding sum
sum-end xs i h = rw (drop_of_length-le xs h)

pub sum-append : (xs ys : List ℕ) → sum (xs ++ ys) ≡ sum xs + sum ys
unfolding sum
sum-append [] ys = omega arith
sum-append (x ∷ xs) ys = let ih = sum-append xs ys in omega arith

-- one element more of a front part
pub sum-take : (xs : List ℕ) (i : ℕ) → i < length xs → sum (take (i + 1) xs) ≡ sum (take i xs) + get_or xs i 0
unfolding sum
sum-take xs i l = rw (add-one i, take-suc xs i 0 l, sum-append (take i xs) (get_or xs i 0 ∷ [])) (omega arith)

-- what holds of the elements before i of a list, and of the element put at i, holds of the elements before i + 1
pub put_next : (f : ℕ → ℕ) (xs : List ℕ) (i v : ℕ) → i < length xs → v ≡ f i → ((j : ℕ) → j < i → get_or xs j 0 ≡ f j) → (j : ℕ) → j < i + 1 → get_or (set xs i v) j 0 ≡ f j
put_next f xs i v l e h j k =
    by_cases (ℕ_discrete j i) (λ x. rw x (get_or-set_same xs i v 0 l ∙ e))
    (λ x. get_or-set_other xs i j v 0 x ∙ h j (omega arith))
