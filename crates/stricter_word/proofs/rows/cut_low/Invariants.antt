-- `cut_low` meets its contract: the first a cuts are written.
use Rattle.std.proofs.Common.{◌≡◌, ℕ, ◌+◌, ◌*◌, ◌<◌, get_or}
use Rattle.slice_search.specs.Places.{below}
use Rattle.slice_search.specs.LowParts.{low_parts}
use Rattle.stricter_word.proofs.rows.cut_low.Given as goal

abbrev pub invariant-loop-a : goal.invariant-loop-a
invariant-loop-a l = (k : ℕ) → k < l.a → get_or l.cut-items k 0 ≡ below (l.i * 16777216 + k * 65536) (low_parts (l.mask + 1) l.moves)
