-- The cycles of a sheet that are known, each a part of the sheet, and what a search for one finds.
use Rattle.std.specs.Prelude.{◌≡◌, true, false, List, [], ◌∷◌, ◌++◌, ℕ, zero, suc, ◌+◌, ◌≤◌, ◌<◌, length, get_or, take, drop}
use Rattle.sheet_spec.specs.Computed.{is_known}

module _ (sheet from size : List ℕ) where
  -- part k: size k bytes from byte from k on
  abbrev pub part_at : ℕ → List ℕ
  part_at k = take (get_or size k 0) (drop (get_or from k 0) sheet)

  -- the first n parts
  unfoldable pub known_of : ℕ → List (List ℕ)
  known_of zero = []
  known_of (suc n) = known_of n ++ (part_at n ∷ [])

  -- n parts, each within the sheet and of at most 32 bytes
  pub record Parts (n : ℕ) : Type 0 where
    pub few : n ≤ 64
    pub froms : length from ≡ 64
    pub sizes : length size ≡ 64
    pub within : (k : ℕ) → k < n → get_or from k 0 + get_or size k 0 ≤ length sheet
    pub short : (k : ℕ) → k < n → get_or size k 0 ≤ 32

  -- the number of one of the first n parts that is the cycle c, or n where none is
  pub record Found (n : ℕ) (c : List ℕ) (k : ℕ) : Type 0 where
    pub most : k ≤ n
    pub same : k < n → (is_known c (known_of n) ≡ true) × (part_at k ≡ c)
    pub none : k ≡ n → is_known c (known_of n) ≡ false
