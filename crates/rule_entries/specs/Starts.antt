-- Where the clauses of each entry begin.
use Rattle.std.specs.Prelude.{◌≡◌, List, ℕ, ◌<◌, length, get_or, take}
use Rattle.sets.specs.Lists.{sum}

-- entry i begins after the clauses of the entries before it
pub record EntryStarts (counts starts : List ℕ) : Type 0 where
  pub at : (i : ℕ) → i < length counts → get_or starts i 0 ≡ sum (take i counts)
