-- The bytes of a cycle repeated from one place of a block on, then zeros.
use Rattle.std.specs.Prelude.{List, [], ◌++◌, ℕ, ◌-◌, length, get_or, take, replicate}
use Rattle.sets.specs.Lists.{tabulate}
use Rattle.theory.specs.Word.{next_place_lem, place}

-- the letter of each step of a cycle, for n steps
unfoldable pub repeated : List ℕ → ℕ → List ℕ
repeated cycle n = tabulate n (λ j. get_or cycle (place (next_place_lem [] cycle) j) 0) 0

-- a block whose bytes from first to below end repeat the cycle, zeros after them
unfoldable pub spread_of : List ℕ → ℕ → ℕ → List ℕ → List ℕ
spread_of cycle first end block = take first block ++ (repeated cycle (end - first) ++ replicate (length block - end) 0)
