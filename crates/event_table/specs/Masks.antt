-- Sets of lines as masks: line j has weight 2 to the power j.
use Rattle.std.specs.Prelude.{◌≡◌, List, ℕ, ◌≤◌, eqb, get_or}
use Rattle.std.specs.Int.Bits.{bit_and}
use Rattle.std.specs.Int.Count.{count_trailing_zeros}
use Rattle.sets.specs.Tests.{some_below}
use Rattle.sets.specs.Masks.{mask}
use Rattle.sets.specs.Lists.{tabulate}
use Rattle.event_spec.specs.Events.{line_count, spans}

-- for each value of a byte, the mask of the lines whose bytes i and i + 1 span it
unfoldable pub masks_of_lem : List ℕ → ℕ → List ℕ
masks_of_lem t i = tabulate 256 (λ x. mask (line_count t) (spans t i x)) 0

-- the masks of a table of at most 64 lines, for kinds and for drives
pub record Masks (t kinds drives : List ℕ) : Type 0 where
  pub lines : line_count t ≤ 64
  pub of_kinds : kinds ≡ masks_of_lem t 0
  pub of_drives : drives ≡ masks_of_lem t 2

-- the least line of m as a mask, or the empty mask
abbrev pub least_of_lem : ℕ → ℕ
least_of_lem m = mask 64 (λ j. eqb (count_trailing_zeros 64 m) j)

-- the lines that are the least of the meet of m with the lines of some drive
abbrev pub firsts_beside_lem : ℕ → List ℕ → ℕ
firsts_beside_lem m drives = mask 64 (λ j. some_below 256 (λ y. eqb (count_trailing_zeros 64 (bit_and m (get_or drives y 0))) j))

-- the lines that are the least of the meet of the lines of some kind with those of some drive
abbrev pub firsts_of : List ℕ → List ℕ → ℕ
firsts_of kinds drives = mask 64 (λ j. some_below 256 (λ x. some_below 256 (λ y. eqb (count_trailing_zeros 64 (bit_and (get_or kinds x 0) (get_or drives y 0))) j)))
