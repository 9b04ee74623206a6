-- The step back of one component, on masks of open states.
use Rattle.std.specs.Prelude.{◌≡◌, Bool, true, ◌&&◌, cond, List, ℕ, suc, ◌+◌, ◌*◌, ◌^◌, ◌≤◌, ◌<◌, eqb, leb, ltb, length, get_or}
use Rattle.std.proofs.Math.Bool.{not}
use Rattle.std.specs.Int.Bits.{bit_and, bit_or, bit_xor}
use Rattle.sets.specs.Tests.{Set, some_below, count, first, largest}
use Rattle.sets.specs.Masks.{bit}
use Rattle.sets.specs.Digits.{num}
use Rattle.build_cores.specs.Used.{sum_of}

-- ---- classes of a set P by the values of l

module _ (P : Set) (l : ℕ → ℕ) where
  -- some member has the value j
  unfoldable pub valued : Set
  valued j = some_below 8 (λ p. P p && eqb (l p) j)

  -- values closed up to 1, 2, ..
  unfoldable pub class : ℕ → ℕ
  class q = count (suc (l q)) valued

  -- the ranks of all members, as nibbles
  unfoldable pub rank_digits : ℕ
  rank_digits = num 16 8 (λ q. cond (P q) (class q) 0)

  -- in nibble k the largest value in the k lowest classes
  unfoldable pub level_digits : ℕ
  level_digits = num 16 16 (λ k. largest 8 (λ q. P q && leb (class q) k) l)

-- ---- the component

module _ (opens : List ℕ) (letter opened part : ℕ) (low : List ℕ) where
  -- the open states of the component in the earlier core
  unfoldable pub goal : ℕ
  goal = bit_and (get_or opens (letter * 256 + opened) 0) part

  -- those of level at most j
  unfoldable pub upto : ℕ → ℕ
  upto j = bit_and (get_or opens (letter * 256 + bit_or (bit_xor opened (bit_and opened part)) (bit_and (get_or low j 0) part)) 0) part

  unfoldable pub level : ℕ → ℕ
  level q = first 15 (λ j. bit (upto j) q) 0

  pub record Rising : Type 0 where
    pub letters : letter < 16
    pub mono : (i j q : ℕ) → q < 8 → i ≤ j → j < 16 → bit (upto i) q ≡ true → bit (upto j) q ≡ true
    pub whole : (j : ℕ) → 8 ≤ j → j < 16 → upto j ≡ goal

  pub record Stepped (ranks levels : ℕ) : Type 0 where
    pub ranked : ranks ≡ rank_digits (bit goal) level
    pub levelled : levels ≡ level_digits (bit goal) level

module _ (opens : List ℕ) (letter opened : ℕ) (parts : List ℕ) (low : List ℕ) where
  -- ranks and levels of component c
  abbrev pub ranks_in : ℕ → ℕ
  ranks_in c = rank_digits (bit (goal opens letter opened (get_or parts c 0) low)) (level opens letter opened (get_or parts c 0) low)

  abbrev pub levels_in : ℕ → ℕ
  levels_in c = level_digits (bit (goal opens letter opened (get_or parts c 0) low)) (level opens letter opened (get_or parts c 0) low)

module _ (parts : List ℕ) (accepting : ℕ) where
  -- component c has no state of the accepting mask: it is rejecting
  unfoldable pub rejecting_part : Set
  rejecting_part c = eqb (bit_and (get_or parts c 0) accepting) 0

  -- it is accepting
  unfoldable pub accepting_part : Set
  unfolding rejecting_part
  accepting_part c = not (rejecting_part c)

  -- it is of kind k, true for accepting
  abbrev pub part_of : Bool → Set
  part_of k = cond k accepting_part rejecting_part

-- what the step back over the components of one kind leaves: their ranks, their levels, and the levels before of all other components
pub record BackOf (kind : Set) (opens : List ℕ) (letter opened : ℕ) (parts : List ℕ) (components : ℕ) (low before : List ℕ)
    (ranks : ℕ) (levels : List ℕ) : Type 0 where
  pub ranked : ranks ≡ sum_of components (λ c. cond (kind c) (ranks_in opens letter opened parts low c) 0)
  pub levelled : (c : ℕ) → get_or levels c 0 ≡ cond (ltb c components && kind c) (levels_in opens letter opened parts low c) (get_or before c 0)
  pub long : length levels ≡ length before
  pub bound : ranks ≤ components * 2 ^ 32

-- what the step back leaves
pub record Back (opens : List ℕ) (letter opened : ℕ) (parts : List ℕ) (components : ℕ) (low : List ℕ) (ranks : ℕ) (levels : List ℕ) : Type 0 where
  pub ranked : ranks ≡ sum_of components (ranks_in opens letter opened parts low)
  pub levelled : (c : ℕ) → c < components → get_or levels c 0 ≡ levels_in opens letter opened parts low c
