-- Which flags and transitions a text can carry, told with no code and no rule (hoa_laws: carried, carries).
use Rattle.std.specs.Prelude.{◌≡◌, cond, ℕ, suc, ◌+◌, ◌^◌, ◌≤◌, ◌<◌, ltb, length, get_or}
use mathlib.Core.List.{List, [], ◌∷◌, Memᴰ}
use Rattle.sets.specs.Lists.{Ascending}
use Rattle.theory.specs.Run.{source_of, letter_of_lem, target_of}

-- the flags of numbers from i on, of which those below `accepting` are accepting; a start is 1 for an initial one, 0 for another
unfoldable pub flags_from : ℕ → ℕ → List ℕ → List ℕ
flags_from accepting i [] = []
flags_from accepting i (start ∷ starts) = cond (ltb i accepting) (2 + start) 0 ∷ flags_from accepting (suc i) starts

-- accepting ones are numbered first, for the code's highest field is 0 in them, and an initial one is accepting
pub record Marked (flags : List ℕ) : Type 0 where
  pub accepting : ℕ
  pub starts : List ℕ
  pub enough : accepting ≤ length starts
  pub each : (i : ℕ) → get_or starts i 0 ≤ 1
  pub begins : (i : ℕ) → accepting ≤ i → get_or starts i 0 ≡ 0
  pub flags_are : flags ≡ flags_from accepting 0 starts

-- a transition between n numbers over b propositions
pub record Ranges (b n t : ℕ) : Type 0 where
  pub source : source_of t < n
  pub letter : letter_of_lem t < 2 ^ b
  pub target : target_of t < n

-- at most 65,536 macrostates, at most four propositions, transitions strictly ascending and in range
pub record Shaped (b : ℕ) (flags transitions : List ℕ) : Type 0 where
  pub few : length flags ≤ 65536
  pub propositions : b ≤ 4
  pub marked : Marked flags
  pub ascend : Ascending transitions
  pub ranges : (t : ℕ) → Memᴰ t transitions → Ranges b (length flags) t
