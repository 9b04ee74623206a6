-- The tests of a line and of a table, one byte after another.
use mathlib.Core.Path.{◌≡◌, ap}
use mathlib.Core.Bool.{Bool, true, false, ◌||◌, not, or-false}
use mathlib.Core.List.{List}
use Prim.Native.Nat.{ℕ, ◌+◌, ◌*◌, ◌%◌, ◌≤◌, ◌<◌}
use native.Mathlib.Omega.{arith}
use native.Mathlib.Nat.{add-zero}
use lib.Dec.{eqb, leb, ltb}
use lib.ListN.{length, get_or}
use borrow.Author.Tests.{lt-ltb, le-ltb, le-leb, lt-leb, eq-eqb, ne_eqb}
use Rattle.sets.specs.Tests.{some_below}
use Rattle.sets.proofs.Bools.{or_l, or_r}
use Rattle.event_spec.specs.Events.{line_count, line_byte, spans}
use Rattle.event_spec.specs.Translation.{faulty, faulty_table}

module _ (s : ℕ) (t : List ℕ) (j : ℕ) where
  pub fault-kinds : get_or t (5 * j + 1) 0 < get_or t (5 * j) 0 → faulty s t j ≡ true
  fault-kinds l = unfold faulty in rw (add-zero (5 * j), lt-ltb (get_or t (5 * j + 1) 0) (get_or t (5 * j) 0) l)

  pub fault-drives : get_or t (5 * j + 3) 0 < get_or t (5 * j + 2) 0 → faulty s t j ≡ true
  unfolding faulty
  fault-drives l =
      let d = lt-ltb (get_or t (5 * j + 3) 0) (get_or t (5 * j + 2) 0) l in
      or_r (ltb (line_byte t j 1) (line_byte t j 0)) (ltb (line_byte t j 3) (line_byte t j 2) || leb s (line_byte t j 4))
      (or_l (ltb (line_byte t j 3) (line_byte t j 2)) (leb s (line_byte t j 4)) d)

  pub fault-letter : get_or t (5 * j) 0 ≤ get_or t (5 * j + 1) 0 → get_or t (5 * j + 2) 0 ≤ get_or t (5 * j + 3) 0 → leb s (get_or t (5 * j + 4) 0) ≡ faulty s t j
  unfolding faulty
  fault-letter k d = rw (add-zero (5 * j), le-ltb (get_or t (5 * j + 1) 0) (get_or t (5 * j) 0) k, le-ltb (get_or t (5 * j + 3) 0) (get_or t (5 * j + 2) 0) d)

module _ (s : ℕ) (t : List ℕ) where
  abbrev line_fault : Bool
  line_fault = some_below (line_count t) (faulty s t)

  abbrev ragged : Bool
  ragged = not (eqb (length t % 5) 0)

  pub table-ragged : (length t % 5 ≡ 0 → ⊥) → faulty_table s t ≡ true
  unfolding faulty_table
  table-ragged n = or_r line_fault (ragged || ltb 64 (line_count t)) (or_l ragged (ltb 64 (line_count t)) (ap not (ne_eqb (length t % 5) 0 n)))

  pub table-long : 64 < line_count t → faulty_table s t ≡ true
  unfolding faulty_table
  table-long l = or_r line_fault (ragged || ltb 64 (line_count t)) (or_r ragged (ltb 64 (line_count t)) (lt-ltb 64 (line_count t) l))

  pub table-lines : length t % 5 ≡ 0 → line_count t ≤ 64 → line_fault ≡ faulty_table s t
  table-lines z l = unfold faulty_table in rw (eq-eqb (length t % 5) 0 z, le-ltb 64 (line_count t) l, or-false)

-- ---- the two bounds of a line

module _ (t : List ℕ) (i x j : ℕ) where
  pub span_below : x < get_or t (5 * j + i) 0 → spans t i x j ≡ false
  span_below l = unfold spans in rw (lt-leb (get_or t (5 * j + i) 0) x l)

  pub span-above : get_or t (5 * j + i) 0 ≤ x → leb x (get_or t (5 * j + i + 1) 0) ≡ spans t i x j
  span-above l = unfold spans in let e : 5 * j + (i + 1) ≡ 5 * j + i + 1 = omega arith in rw (le-leb (get_or t (5 * j + i) 0) x l, e)
