-- The graph of the pairs of cores of two tagged tables: core i of A and core j of B, of nb numbers, are the node i * nb + j.
use Rattle.std.specs.Prelude.{◌≡◌, Bool, true, ◌&&◌, cond, ℕ, ◌+◌, ◌*◌, ◌≤◌, ◌<◌, eqb, ltb, length, get_or}
use mathlib.Core.List.{List, Memᴰ}
use Rattle.sets.specs.Lists.{Ascending}
use Rattle.sets.specs.Tests.{one}
use Rattle.theory.specs.Run.{letter_of_lem}
use Rattle.stricter_spec.specs.Tags.{core_number_lem, row_of_lem, onto_of_lem, sparing, untagged}

module _ (nb : ℕ) (left right : List ℕ) where
  -- a pair of cores goes to another: by a transition of each table, both over one letter
  pub record CoreStep (x y : ℕ) : Type 0 where
    pub of_a : ℕ
    pub of_b : ℕ
    pub listed_a : Memᴰ of_a left
    pub listed_b : Memᴰ of_b right
    pub letters : letter_of_lem of_a ≡ letter_of_lem of_b
    pub source : x ≡ row_of_lem of_a * nb + row_of_lem of_b
    pub target : y ≡ onto_of_lem of_a * nb + onto_of_lem of_b

  -- by ones that spare component K on a side: the second, or the first
  pub record SparedStep (second : Bool) (K x y : ℕ) : Type 0 where
    pub step : CoreStep x y
    pub spares : sparing (cond second step.of_b step.of_a) K ≡ true

-- two tagged tables of na and nb numbers, and a mark for each pair
pub record CoresFit (na nb : ℕ) (left right marks : List ℕ) : Type 0 where
  pub ascend_a : Ascending (untagged left)
  pub ascend_b : Ascending (untagged right)
  pub letters_b : (u : ℕ) → Memᴰ u right → letter_of_lem u < 16
  pub onto_a : (t : ℕ) → Memᴰ t left → onto_of_lem t < na
  pub onto_b : (u : ℕ) → Memᴰ u right → onto_of_lem u < nb
  pub marked : length marks ≡ na * nb
  pub few_a : na ≤ 65536
  pub few_b : nb ≤ 65536

-- number i stands for its core
unfoldable pub stands_in : List ℕ → ℕ → Bool
stands_in codes i = eqb (core_number_lem (get_or codes i 0)) i

-- the pairs that are in are pairs of such numbers; codes are A's, tagged
abbrev pub OnlyCores : List ℕ → ℕ → List ℕ → Type 0
OnlyCores codes nb marks = (i j : ℕ) → j < nb → 0 < get_or marks (i * nb + j) 0 → stands_in codes i ≡ true

-- all pairs of cores are in, no others
pub record CoresIn (acodes bcodes marks : List ℕ) : Type 0 where
  pub long : length marks ≡ length acodes * length bcodes
  pub each : (i j : ℕ) → i < length acodes → j < length bcodes → get_or marks (i * length bcodes + j) 0 ≡ one (stands_in acodes i && stands_in bcodes j)

-- the core of number i is that of a number of the list
unfoldable pub has_core : List ℕ → ℕ → Bool
has_core codes i = ltb (core_number_lem (get_or codes i 0)) (length codes)

-- each pair of numbers has the mark of the pair of their cores, or none
pub record Spread (acodes bcodes old new : List ℕ) : Type 0 where
  pub long : length new ≡ length old
  pub each : (i j : ℕ) → i < length acodes → j < length bcodes
      → get_or new (i * length bcodes + j) 0
      ≡ cond (has_core acodes i && has_core bcodes j) (get_or old (core_number_lem (get_or acodes i 0) * length bcodes + core_number_lem (get_or bcodes j 0)) 0) 0
