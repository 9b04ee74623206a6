-- Words: a lead-in and a cycle that repeats for ever, one letter a number.
use Rattle.std.specs.Prelude.{cond, ℕ, zero, suc, ◌+◌, ◌<◌, eqb, length, get_or}
use mathlib.Core.List.{List, ◌++◌, Memᴰ}

module _ (lead cycle : List ℕ) where
  -- 01: "Places run through lead-in, then cycle"
  abbrev pub places : ℕ
  places = length lead + length cycle

  -- 01: "the last place is followed by the cycle's first"
  unfoldable pub next_place_lem : ℕ → ℕ
  next_place_lem p = cond (eqb (suc p) places) (length lead) (suc p)

  unfoldable pub letter_at_lem : ℕ → ℕ
  letter_at_lem p = get_or (lead ++ cycle) p 0

-- "Step 0 of a word stands at place 0, each later step, without end, at the place that follows": next is the place after a place
unfoldable pub place : (ℕ → ℕ) → ℕ → ℕ
place next zero = 0
place next (suc i) = next (place next i)

-- "a step's letter is that of its place"
abbrev pub letters : List ℕ → List ℕ → ℕ → ℕ
letters lead cycle i = letter_at_lem lead cycle (place (next_place_lem lead cycle) i)

-- a word over s letters, with any lead-in and any cycle but the empty one
pub record WordOver (s : ℕ) (lead cycle : List ℕ) : Type 0 where
  pub repeats : 0 < length cycle
  pub lead_letters : (a : ℕ) → Memᴰ a lead → a < s
  pub cycle_letters : (a : ℕ) → Memᴰ a cycle → a < s
