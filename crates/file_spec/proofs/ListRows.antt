-- Rows 8 to 10, by the tests that led there.
use Prim.Native.Nat.{ℕ, ◌^◌}
use mathlib.Core.Path.{◌≡◌}
use mathlib.Core.Bool.{true, false}
use mathlib.Core.List.{List}
use borrow.Author.Tests.{eq-eqb, ne_eqb}
use lib.ListN.{length}
use lib.Dec.{leb}
use Rattle.sets.specs.Lists.{any_of, sum}
use Rattle.refusals.specs.Rows.{first_row}
use Rattle.file_spec.specs.RuleRows.{list_rows}

module _ (n : ℕ) (counts clauses : List ℕ) where
  pub row-8 : any_of counts (leb 9) ≡ true → 8 ≡ first_row (list_rows n counts clauses)
  row-8 a = unfold first_row list_rows in rw a

  pub row-9 : any_of counts (leb 9) ≡ false → (sum counts ≡ length clauses → ⊥) → 9 ≡ first_row (list_rows n counts clauses)
  row-9 a b = unfold first_row list_rows in rw (a, ne_eqb _ _ b)

  pub row-10 : any_of counts (leb 9) ≡ false → sum counts ≡ length clauses → any_of clauses (leb (2 ^ n)) ≡ true → 10 ≡ first_row (list_rows n counts clauses)
  row-10 a b d = unfold first_row list_rows in rw (a, eq-eqb _ _ b, d)

  pub pass-10 : any_of counts (leb 9) ≡ false → sum counts ≡ length clauses → any_of clauses (leb (2 ^ n)) ≡ false → 0 ≡ first_row (list_rows n counts clauses)
  pass-10 a b d = unfold first_row list_rows in rw (a, eq-eqb _ _ b, d)
