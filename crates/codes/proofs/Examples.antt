-- A transition of 01, and a word of bytes.
use mathlib.Core.Path.{◌≡◌, refl}
use mathlib.Core.List.{[], ◌∷◌}
use Rattle.sets.specs.Digits.{num}
use Rattle.sets.specs.Lists.{tabulate}
use Rattle.codes.specs.Codes.{transition_of}
use Rattle.codes.specs.Bytes.{word_at, bytes_of}

-- the transition `t 2 1 0` of F
pub transition-f : transition_of 2 1 0 ≡ 33619968
transition-f = refl

-- the low byte comes first
pub low_first : word_at (1 ∷ (2 ∷ (0 ∷ (0 ∷ (0 ∷ (0 ∷ (0 ∷ (0 ∷ [])))))))) 0 ≡ 513
unfolding word_at num
low_first = refl

pub bytes-first : bytes_of 513 ≡ 1 ∷ (2 ∷ (0 ∷ (0 ∷ (0 ∷ (0 ∷ (0 ∷ (0 ∷ [])))))))
unfolding bytes_of tabulate
bytes-first = refl
