-- Sets of numbers as tests, and what a walk over the numbers below n finds.
use Rattle.std.specs.Prelude.{Bool, true, false, ◌&&◌, ◌||◌, ℕ, zero, suc, ◌+◌, max}

-- a set of numbers, given by its test for membership
abbrev pub Set : Type 0
Set = ℕ → Bool

-- the test holds at every number below n
unfoldable pub every : ℕ → Set → Bool
every zero f = true
every (suc n) f = every n f && f n

-- the test holds at some number below n
unfoldable pub some_below : ℕ → Set → Bool
some_below zero f = false
some_below (suc n) f = some_below n f || f n

-- 1 for true, 0 for false
abbrev pub one : Bool → ℕ
one true = 1
one false = 0

-- at how many numbers below n the test holds
unfoldable pub count : ℕ → Set → ℕ
count zero f = 0
count (suc n) f = count n f + one (f n)

-- the least of the k numbers from a on where the test holds, or a + k
unfoldable pub first : ℕ → Set → ℕ → ℕ
first zero f a = a
first (suc k) f a = elim (f a) [ true ↦ a | false ↦ first k f (suc a) ]

-- the largest value of g at the numbers below n where the test holds, or 0
unfoldable pub largest : ℕ → Set → (ℕ → ℕ) → ℕ
largest zero f g = 0
largest (suc n) f g = elim (f n) [ true ↦ max (g n) (largest n f g) | false ↦ largest n f g ]
