-- Codes that carry a number in their bits 48 to 63, which no code uses.
use Rattle.std.specs.Prelude.{◌≡◌, true, false, cond, List, [], ◌∷◌, ℕ, suc, ◌+◌, ◌*◌, ◌-◌, ◌/◌, ◌%◌, ◌^◌, ltb, length, get_or}
use Rattle.theory.specs.Run.{source_of, letter_of_lem, target_of}
use Rattle.trim_spec.specs.Trimmed.{is_live, new_number, is_left_lem}

-- the numbers that the codes carry
unfoldable pub highs : List ℕ → List ℕ
highs [] = []
highs (x ∷ xs) = x / 2 ^ 48 ∷ highs xs

-- the codes themselves
unfoldable pub lows : List ℕ → List ℕ
lows [] = []
lows (x ∷ xs) = x % 2 ^ 48 ∷ lows xs

-- the number that is carried while transitions are rewritten: 0 for a code that is out, else 1 more than the code's new number
unfoldable pub tag_of : List ℕ → ℕ → ℕ
tag_of marks i = cond (is_live marks i) (suc (new_number marks i)) 0

pub record Numbered (marks tags : List ℕ) : Type 0 where
  pub long : length tags ≡ length marks
  pub each : (i : ℕ) → get_or tags i 0 ≡ tag_of marks i

-- the codes with a number that is not 0, without it
unfoldable pub compacted : List ℕ → List ℕ
compacted [] = []
compacted (x ∷ xs) = elim (ltb 0 (x / 2 ^ 48)) [ true ↦ x % 2 ^ 48 ∷ compacted xs | false ↦ compacted xs ]

-- a transition by the numbers that its ends carry
unfoldable pub rewrite : List ℕ → ℕ → ℕ
rewrite tags t = (get_or tags (source_of t) 0 - 1) * 16777216 + letter_of_lem t * 65536 + (get_or tags (target_of t) 0 - 1)

-- the transitions whose ends carry numbers that are not 0, by these
unfoldable pub rewritten : List ℕ → List ℕ → List ℕ
rewritten tags [] = []
rewritten tags (t ∷ ts) = elim (is_left_lem tags t) [ true ↦ rewrite tags t ∷ rewritten tags ts | false ↦ rewritten tags ts ]
