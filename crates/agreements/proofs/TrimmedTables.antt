-- A trimmed table passes row 15 too; on it both judges agree by `both-judges`, since demand 3 holds of it.
use mathlib.Core.Path.{◌≡◌}
use Prim.Native.Nat.{◌≤◌}
use lib.ListN.{length}
use Rattle.theory.specs.Passing.{Passing}
use Rattle.theory.specs.Rule.{Rule}
use Rattle.theory.specs.TableComputed.{macrostates}
use Rattle.table_lent.specs.Lent.{in_words, table_row_lem}
use Rattle.table_rows.specs.Passed.{Passed}
use Rattle.trim_spec.specs.Trimmed.{trimmed_codes, trimmed_transitions}
use Rattle.theory_laws.proofs.Trimmed.{trimmed-room, trimmed-lists}
use Rattle.agreements.proofs.ListedTables.{listed-passes, listed-served}

module _ (r : Rule) (P : Passing r) (room : length (macrostates r) ≤ 65536) where
  pub trimmed-passes : Passed r.s (trimmed_codes r) (trimmed_transitions r)
  trimmed-passes = listed-passes r P (trimmed-lists r P room) (trimmed-room r P room) (λ c K. K.0)

  pub trimmed-served : table_row_lem r.s (in_words (trimmed_codes r)) (in_words (trimmed_transitions r)) ≡ 0
  trimmed-served = listed-served r P (trimmed-lists r P room) (trimmed-room r P room) (λ c K. K.0)
