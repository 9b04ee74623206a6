-- Macrostates as numbers.
use Rattle.std.specs.Prelude.{Bool, ◌&&◌, cond, ℕ, ◌+◌, ◌*◌, ◌/◌, ◌%◌, ◌^◌, eqb, ltb}
use Rattle.sets.specs.Tests.{Set}
use Rattle.sets.specs.Masks.{bit, mask}
use Rattle.sets.specs.Digits.{num}
use Rattle.theory.specs.Automaton.{Automaton}

-- 01: "Its code is a 64-bit number: bits 0 to 7 S, four bits from 8 + 4 × q for the rank of q, 40 to 43 K, 44 to 47 k, the rest zero."
-- ten hexadecimal digits above the set: the ranks, K, k
unfoldable pub fields : (ℕ → ℕ) → ℕ → ℕ → ℕ → ℕ
fields r K k j = cond (ltb j 8) (r j) (cond (eqb j 8) K k)

unfoldable pub pack : Set → (ℕ → ℕ) → ℕ → ℕ → ℕ
pack S r K k = num 16 10 (fields r K k) * 2 ^ 8 + mask 8 S

-- the component number K and the number k of classes left
unfoldable pub component_in : ℕ → ℕ
component_in c = c / 2 ^ 40 % 16

unfoldable pub classes_in : ℕ → ℕ
classes_in c = c / 2 ^ 44 % 16

module _ (A : Automaton) where
  -- the set, of the automaton's states
  unfoldable pub set_in : ℕ → Set
  set_in c q = ltb q A.n && bit c q

  -- the rank of a state
  unfoldable pub rank_in : ℕ → ℕ → ℕ
  rank_in c q = cond (ltb q A.n) (c / 2 ^ (8 + 4 * q) % 16) 0

  -- "the rest zero": the code is made of its parts alone
  unfoldable pub well_coded : ℕ → Bool
  well_coded c = eqb (pack (set_in c) (rank_in c) (component_in c) (classes_in c)) c
