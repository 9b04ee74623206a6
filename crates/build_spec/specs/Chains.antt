-- Chains: an element of the slice is link × 2^48 + key. Links go down, and every chain ends at place 0.
use Rattle.std.specs.Prelude.{◌≡◌, ◌⊎◌, List, ℕ, ◌-◌, ◌*◌, ◌/◌, ◌%◌, ◌^◌, ◌≤◌, ◌<◌, length, get_or}
use Rattle.std.specs.Int.Bits.{bit_and}

-- the key at place p: bits 0 to 47
abbrev pub key_at : List ℕ → ℕ → ℕ
key_at xs p = get_or xs p 0 % 2 ^ 48

-- the link at place p: bits 48 to 63
abbrev pub link_at : List ℕ → ℕ → ℕ
link_at xs p = get_or xs p 0 / 2 ^ 48

-- the bucket of a core, a number of its ranks; no law needs to know which
unfoldable pub bucket_of : ℕ → ℕ
bucket_of core = bit_and (core / 2 ^ 8 * 2654435761 / 2 ^ 18) 16383

abbrev pub bucket_at : List ℕ → ℕ → ℕ
bucket_at xs p = bucket_of (key_at xs p / 256)

-- y is one of the first n keys
abbrev pub Lists : List ℕ → ℕ → ℕ → Type 0
Lists xs n y = (p : ℕ) × (p < n) × (key_at xs p ≡ y)

-- r is the place of y among the first n keys, or n if it is not there
pub record Found (xs : List ℕ) (n y r : ℕ) : Type 0 where
  pub hit : r < n → key_at xs r ≡ y
  pub none : n ≤ r → Lists xs n y → ⊥

-- the core of the key at place j stands at a lower place too
abbrev pub Before : List ℕ → ℕ → Type 0
Before xs j = (q : ℕ) × (q < j) × (key_at xs q / 256 ≡ key_at xs j / 256)

-- the chain of bucket b below place n begins at place top: no place of the bucket below n is above it. It is place 0, or of the bucket.
pub record Begins (xs : List ℕ) (n b top : ℕ) : Type 0 where
  pub inside : top ≤ n - 1
  pub own : (top ≡ 0) ⊎ (bucket_at xs top ≡ b)
  pub above : (p : ℕ) → p < n → bucket_at xs p ≡ b → p ≤ top

-- n keys, each once; heads begin the chains, a link goes on with the chain below its place. The clock last is above the places of each set.
pub record Chained (xs heads last : List ℕ) (n : ℕ) : Type 0 where
  pub fits : n ≤ length xs
  pub few : length xs ≤ 65536
  pub buckets : length heads ≡ 16384
  pub sets : length last ≡ 256
  pub begin : (b : ℕ) → b < 16384 → Begins xs n b (get_or heads b 0)
  pub links : (p : ℕ) → 0 < p → p < n → Begins xs p (bucket_at xs p) (link_at xs p)
  pub once : (p q : ℕ) → p < q → q < n → key_at xs p ≡ key_at xs q → ⊥
  pub clock : (p : ℕ) → p < n → p < get_or last (key_at xs p / 256 % 256) 0
