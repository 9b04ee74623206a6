-- The masks of a cycle while they are computed: one height after another, rounds until nothing changes.
-- An accepting state is closed while it is in its mask, a rejecting one while it is not: rounds only open states.
use Rattle.std.specs.Prelude.{◌≡◌, Bool, true, false, ◌&&◌, not, cond, List, [], ◌∷◌, ℕ, ◌+◌, ◌^◌, ◌<◌, eqb, length, get_or}
use Rattle.sets.specs.Masks.{bit, mask, exclusive}
use Rattle.theory.specs.Rule.{Rule, entry, satisfies}
use Rattle.theory.specs.Word.{next_place_lem, letter_at_lem}
use Rattle.theory.specs.Truth.{height_of, truth_masks}

-- the states of height h
abbrev pub layer_of : Rule → ℕ → ℕ
layer_of r h = mask r.n (λ q. eqb (height_of r q) h)

-- q is open in the mask m
abbrev pub open_in : Rule → ℕ → ℕ → Bool
open_in r m q = exclusive (bit r.accepting q) (bit m q)

module _ (r : Rule) (cycle : List ℕ) where
  -- the mask at the following place opens q at place p
  abbrev pub opens : List ℕ → ℕ → ℕ → Bool
  opens ms p q = exclusive (bit r.accepting q) (satisfies r.n (bit (get_or ms (next_place_lem [] cycle p) 0)) (entry r q (letter_at_lem [] cycle p)))

  -- the mask at place p with the states of the layer opened that the following mask opens
  unfoldable pub opened : ℕ → List ℕ → ℕ → ℕ
  opened layer ms p = mask 8 (λ q. cond (bit layer q && opens ms p q) (not (bit r.accepting q)) (bit (get_or ms p 0) q))

  -- right for the states of height below h, no state of height h wrongly open, the states above closed
  pub record Part (h : ℕ) (ms : List ℕ) : Type 0 where
    pub long : length ms ≡ length cycle
    pub known : (p q : ℕ) → p < length cycle → q < r.n → height_of r q < h → bit (get_or ms p 0) q ≡ bit (get_or (truth_masks r [] cycle) p 0) q
    pub sound : (p q : ℕ) → p < length cycle → q < r.n → height_of r q ≡ h → open_in r (get_or ms p 0) q ≡ true → open_in r (get_or (truth_masks r [] cycle) p 0) q ≡ true
    pub later : (p q : ℕ) → p < length cycle → q < r.n → h < height_of r q → bit (get_or ms p 0) q ≡ bit r.accepting q
    pub low : (p : ℕ) → p < length cycle → get_or ms p 0 < 2 ^ r.n

  -- how far the layer is open: the sum of the masks of its open states
  unfoldable pub extent : ℕ → List ℕ → ℕ
  extent layer [] = 0
  extent layer (m ∷ ms) = mask 8 (λ q. bit layer q && open_in r m q) + extent layer ms

  -- what a round leaves of ms: something more is open, or nothing is left to open
  pub record Round (layer : ℕ) (ms t : List ℕ) (changed : Bool) : Type 0 where
    pub long : length t ≡ length ms
    pub part : (h : ℕ) → layer ≡ layer_of r h → Part h ms → Part h t
    pub still : changed ≡ false → (p : ℕ) → p < length cycle → opened layer t p ≡ get_or t p 0
    pub grown : changed ≡ true → extent layer ms < extent layer t
