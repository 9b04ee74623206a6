-- Pairs that are accepting on a side, and pairs where runs of both tables may begin.
use Rattle.std.specs.Prelude.{Bool, ◌&&◌, cond, List, ℕ, ◌/◌, ◌%◌, length, get_or}
use Rattle.sets.specs.Tests.{Set}
use Rattle.theory.specs.Macrostate.{begun, is_accepting_lem}

module _ (codes_a_lem codes_b_lem : List ℕ) where
  -- 01: "It is accepting if k is 0.": the number of the first table, or if `second`, that of the second
  unfoldable pub accepts_in : Bool → Set
  accepts_in second x = is_accepting_lem (cond second (get_or codes_b_lem (x % length codes_b_lem) 0) (get_or codes_a_lem (x / length codes_b_lem) 0))

  -- both numbers may begin
  unfoldable pub starts_in : Set → Set → Set
  starts_in start_a start_b x = begun start_a (get_or codes_a_lem (x / length codes_b_lem) 0) && begun start_b (get_or codes_b_lem (x % length codes_b_lem) 0)
