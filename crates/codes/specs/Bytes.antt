-- 64-bit numbers as bytes: 01, "each code and transition as 8 bytes, low byte first".
use Rattle.std.specs.Prelude.{List, [], ◌∷◌, ◌++◌, ℕ, ◌+◌, ◌*◌, ◌/◌, ◌%◌, ◌^◌, get_or}
use Rattle.sets.specs.Digits.{num}
use Rattle.sets.specs.Lists.{tabulate}

-- the number whose 8 bytes stand from place i on
unfoldable pub word_at : List ℕ → ℕ → ℕ
word_at bytes i = num 256 8 (λ j. get_or bytes (i + j) 0)

-- the n numbers whose bytes follow each other
unfoldable pub words_of : ℕ → List ℕ → List ℕ
words_of n bytes = tabulate n (λ i. word_at bytes (i * 8)) 0

-- the 8 bytes of a number
unfoldable pub bytes_of : ℕ → List ℕ
bytes_of x = tabulate 8 (λ j. x / 256 ^ j % 256) 0

-- the bytes of each number of a list, one after the other
unfoldable pub bytes_of_all : List ℕ → List ℕ
bytes_of_all [] = []
bytes_of_all (x ∷ xs) = bytes_of x ++ bytes_of_all xs
