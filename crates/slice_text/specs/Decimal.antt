-- Numbers in decimal digits, as ASCII.
use Rattle.std.specs.Prelude.{true, false, List, [], ◌∷◌, ◌++◌, ℕ, zero, suc, ◌+◌, ◌/◌, ◌%◌, ltb}

-- a number below 10 as a digit: `0` is 48
abbrev pub digit : ℕ → ℕ
digit d = 48 + d

-- the digits of x, high digit first, where x has at most m + 1 of them
unfoldable pub digits_in : ℕ → ℕ → List ℕ
digits_in zero x = digit x ∷ []
digits_in (suc m) x = elim (ltb x 10) [ true ↦ digit x ∷ [] | false ↦ digits_in m (x / 10) ++ (digit (x % 10) ∷ []) ]

-- x in decimal digits, high digit first, `0` for zero: x has at most x + 1 of them.
-- Below 10 it is the digit of x, else decimal (x / 10) and then the digit of x % 10 (proofs/Decimal: one-digit, more-digits).
unfoldable pub decimal : ℕ → List ℕ
decimal x = digits_in x x

-- a blank and x in decimal digits
unfoldable pub word : ℕ → List ℕ
word x = 32 ∷ decimal x
