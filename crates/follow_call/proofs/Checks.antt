-- The rows of a call, test by test, and joined.
use mathlib.Core.Path.{◌≡◌, refl, sym, ap, ◌∙◌}
use mathlib.Core.Bool.{true, false}
use mathlib.Core.List.{List, ◌++◌}
use Prim.Native.Nat.{ℕ, ◌≤◌, ◌<◌}
use lib.Dec.{leb, ltb}
use lib.ListN.{length}
use borrow.Author.Tests.{lt-ltb, le-ltb, ltb-false}
use Rattle.sets.specs.Lists.{any_of}
use Rattle.std.specs.Prelude.{Ok}
use Rattle.refusals.specs.Rows.{first_refusal}
use Rattle.refusals.proofs.Rows.{numbered, first-parts, first-pass, refusal-right, row-passes}
use Rattle.table_lent.specs.Lent.{Lent, table_rows_lem, table_row_lem}
use Rattle.follow_spec.specs.Rows.{letter_rows, set_rows, follow_call_rows}

-- ---- joined

module _ (s : ℕ) (letters : List ℕ) (codes transitions : Lent) (room : ℕ) where
  letter-numbered : numbered (letter_rows s letters) ≡ true
  unfolding numbered letter_rows
  letter-numbered = refl

  table-numbered : numbered (table_rows_lem s codes transitions) ≡ true
  unfolding numbered table_rows_lem
  table-numbered = refl

  -- as many codes as the bytes hold: the last part answers where the others pass
  pub set-answers : first_refusal (letter_rows s letters) ≡ Ok tt → first_refusal (table_rows_lem s codes transitions) ≡ Ok tt
      → first_refusal (set_rows (length codes.numbers) room) ≡ first_refusal (follow_call_rows s letters codes transitions room)
  unfolding follow_call_rows
  set-answers z t = sym (refusal-right (table_rows_lem s codes transitions) _ t) ∙ sym (refusal-right (letter_rows s letters) _ z)

  -- what no row refuses
  pub parts : first_refusal (follow_call_rows s letters codes transitions room) ≡ Ok tt → (table_row_lem s codes transitions ≡ 0) × (length codes.numbers ≤ room)
  unfolding follow_call_rows table_row_lem set_rows
  parts e =
      let (f, g) = first-parts (letter_rows s letters) _ letter-numbered (row-passes _ e) in
      let (h, i) = first-parts (table_rows_lem s codes transitions) _ table-numbered g in
      (h, ltb-false room (length codes.numbers) (first-pass _ _ _ i).0)
