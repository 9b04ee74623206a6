-- `stretch_end` meets its contract: the transitions from place j up to place k come from number i.
use Rattle.std.proofs.Common.{◌≡◌, ◌≤◌, ◌<◌, ℕ, get_or}
use Rattle.theory.specs.Run.{source_of}
use Rattle.table_lent.specs.Lent.{words_in}
use Rattle.hoa_text.proofs.table.stretch_end.Given as goal

abbrev pub invariant-loop-k : goal.invariant-loop-k
invariant-loop-k l = (p : ℕ) → l.j ≤ p → p < l.k → source_of (get_or (words_in l.moves) p 0) ≡ l.i
