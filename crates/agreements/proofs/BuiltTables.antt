-- A built table passes row 15: the judge on a table serves what the build leaves.
use mathlib.Core.Path.{◌≡◌}
use Prim.Native.Nat.{◌≤◌}
use native.Mathlib.Omega.{arith}
use lib.ListN.{length}
use Rattle.sets.proofs.Lists.{mem-at}
use Rattle.theory.specs.Passing.{Passing}
use Rattle.theory.specs.Rule.{Rule}
use Rattle.theory.specs.TableComputed.{macrostates, transitions}
use Rattle.theory_laws.proofs.Tables.{lists-reachable}
use Rattle.codes.specs.Bytes.{bytes_of_all}
use Rattle.table_lent.specs.Lent.{in_words, in_bytes_lem, table_row_lem}
use Rattle.table_lent.proofs.Bytes.{bytes-lent}
use Rattle.table_rows.specs.Passed.{Passed}
use Rattle.agreements.proofs.ListedTables.{listed-passes, listed-served}

module _ (r : Rule) (P : Passing r) (room : length (macrostates r) ≤ 65536) where
  pub built-passes : Passed r.s (macrostates r) (transitions r)
  built-passes = listed-passes r P (lists-reachable r P room) room (λ c R. R)

  pub built-served : table_row_lem r.s (in_words (macrostates r)) (in_words (transitions r)) ≡ 0
  built-served = listed-served r P (lists-reachable r P room) room (λ c R. R)

  -- ---- in bytes, each code and transition as 8 bytes, low byte first

  pub codes-in-bytes : in_bytes_lem (bytes_of_all (macrostates r)) ≡ in_words (macrostates r)
  codes-in-bytes = bytes-lent (macrostates r) (λ i l. let h = built-passes.narrow _ (mem-at (macrostates r) i l) in omega arith)

  pub transitions-in-bytes : in_bytes_lem (bytes_of_all (transitions r)) ≡ in_words (transitions r)
  transitions-in-bytes = bytes-lent (transitions r) (λ i l. let h = built-passes.source _ (mem-at (transitions r) i l) in omega (arith, h, room))

  pub built-served-bytes : table_row_lem r.s (in_bytes_lem (bytes_of_all (macrostates r))) (in_bytes_lem (bytes_of_all (transitions r))) ≡ 0
  built-served-bytes = rw (codes-in-bytes, transitions-in-bytes) built-served
