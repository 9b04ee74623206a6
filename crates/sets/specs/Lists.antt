-- Lists of numbers: kept, sorted, strictly ascending.
use Rattle.std.specs.Prelude.{Bool, true, false, ◌&&◌, List, [], ◌∷◌, ◌++◌, ℕ, zero, suc, ◌+◌, ◌<◌, eqb, ltb}
use Rattle.sets.specs.Tests.{Set}

-- the members that pass the test, in their order
unfoldable pub keep : Set → List ℕ → List ℕ
keep f [] = []
keep f (x ∷ xs) = elim (f x) [ true ↦ x ∷ keep f xs | false ↦ keep f xs ]

-- whether x is in the list
unfoldable pub among : List ℕ → Set
among [] x = false
among (y ∷ ys) x = elim (eqb y x) [ true ↦ true | false ↦ among ys x ]

-- whether some member passes the test
unfoldable pub any_of : List ℕ → Set → Bool
any_of [] f = false
any_of (y ∷ ys) f = elim (f y) [ true ↦ true | false ↦ any_of ys f ]

-- whether all members pass the test
unfoldable pub all_of : List ℕ → Set → Bool
all_of [] f = true
all_of (y ∷ ys) f = f y && all_of ys f

-- the sum of the members
unfoldable pub sum : List ℕ → ℕ
sum [] = 0
sum (x ∷ xs) = x + sum xs

-- the numbers a, a + 1, .., k of them, through f
unfoldable pub tabulate : ℕ → (ℕ → ℕ) → ℕ → List ℕ
tabulate zero f a = []
tabulate (suc k) f a = f a ∷ tabulate k f (suc a)

-- the lists f x of all members x, joined
unfoldable pub flat : List ℕ → (ℕ → List ℕ) → List ℕ
flat [] f = []
flat (x ∷ xs) f = f x ++ flat xs f

-- insertion into a strictly ascending list; a number that is there stays once
unfoldable pub insert_ascending : ℕ → List ℕ → List ℕ
insert_ascending x [] = x ∷ []
insert_ascending x (y ∷ ys) = elim (ltb x y) [ true ↦ x ∷ (y ∷ ys) | false ↦ elim (eqb x y) [ true ↦ y ∷ ys | false ↦ y ∷ insert_ascending x ys ] ]

-- the members in strictly ascending order, each once
unfoldable pub sorted : List ℕ → List ℕ
unfolding insert_ascending
sorted [] = []
sorted (x ∷ xs) = insert_ascending x (sorted xs)

-- x stands below all of the list, and the list ascends strictly
pub data Above : ℕ → List ℕ → Type 0 where
  end : {x : ℕ} → Above x []
  more : {x y : ℕ} {ys : List ℕ} → x < y → Above y ys → Above x (y ∷ ys)

-- the list ascends strictly
pub data Ascending : List ℕ → Type 0 where
  none : Ascending []
  from : {x : ℕ} {xs : List ℕ} → Above x xs → Ascending (x ∷ xs)
