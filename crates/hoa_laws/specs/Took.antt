-- What the functions that read a text answer. Place 0 says that the text does not go on so.
use Rattle.std.specs.Prelude.{◌≡◌, List, ◌∷◌, ◌++◌, ℕ, ◌-◌, ◌^◌, ◌≤◌, ◌<◌, length, get_or, drop}
use Rattle.sets.specs.Masks.{bit}
use Rattle.theory.specs.Run.{source_of, letter_of_lem, target_of}
use Rattle.slice_text.specs.Decimal.{decimal, word}

-- the text ends in a newline: after any other byte there is one more
abbrev pub Ended : List ℕ → Type 0
Ended text = get_or text (length text - 1) 0 ≡ 10

-- from place p on the text begins with s, which ends before place r
pub record Took (text : List ℕ) (p : ℕ) (s : List ℕ) (r : ℕ) : Type 0 where
  pub found : 0 < r → (r ≤ length text) × (drop p text ≡ s ++ drop r text)
  pub absent : r ≡ 0 → (rest : List ℕ) → drop p text ≡ s ++ rest → ⊥

-- from place p on the text begins with that of x, a number that may be, which ends before place r; r is 0 if it begins with that of no such number
pub record TookOne (text : List ℕ) (p : ℕ) (May : ℕ → Type 0) (text_of : ℕ → List ℕ) (x r : ℕ) : Type 0 where
  pub found : 0 < r → May x × (r ≤ length text) × (drop p text ≡ text_of x ++ drop r text)
  pub absent : r ≡ 0 → (y : ℕ) → May y → (rest : List ℕ) → drop p text ≡ text_of y ++ rest → ⊥

-- a number ends before a byte that is less than a digit
pub record Stops (rest : List ℕ) : Type 0 where
  pub byte : ℕ
  pub others : List ℕ
  pub low : byte < 48
  pub is : rest ≡ byte ∷ others

-- a blank and a number of at most 65536 in decimal digits
pub record TookWord (text : List ℕ) (p x r : ℕ) : Type 0 where
  pub found : 0 < r → (x ≤ 65536) × (r ≤ length text) × Stops (drop r text) × (drop p text ≡ word x ++ drop r text)
  pub absent : r ≡ 0 → (y : ℕ) → y ≤ 65536 → (rest : List ℕ) → Stops rest → drop p text ≡ word y ++ rest → ⊥

-- the text goes on with no start line
abbrev pub NoStart : List ℕ → Type 0
NoStart rest = (others : List ℕ) → rest ≡ 83 ∷ others → ⊥

-- the text goes on with no edge line
abbrev pub NoEdge : List ℕ → Type 0
NoEdge rest = (others : List ℕ) → rest ≡ 91 ∷ others → ⊥

-- the same flag, numbered q, at each place
abbrev pub SameBits : ℕ → List ℕ → List ℕ → Type 0
SameBits q xs ys = (i : ℕ) → bit (get_or xs i 0) q ≡ bit (get_or ys i 0) q

-- the digits of a number whose first ones, those of v, were read
pub record TookDigits (text : List ℕ) (p v x r : ℕ) : Type 0 where
  pub found : 0 < r → (x ≤ 65536) × (r ≤ length text) × Stops (drop r text) × (decimal v ++ drop p text ≡ decimal x ++ drop r text)
  pub absent : r ≡ 0 → (y : ℕ) → y ≤ 65536 → (rest : List ℕ) → Stops rest → decimal v ++ drop p text ≡ decimal y ++ rest → ⊥

-- a transition from i over b propositions to one of n numbers
pub record Leaves (b n i t : ℕ) : Type 0 where
  pub source : source_of t ≡ i
  pub letter : letter_of_lem t < 2 ^ b
  pub target : target_of t < n
