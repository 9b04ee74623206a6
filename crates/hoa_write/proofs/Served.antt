-- A slice of MULGREDDI_HOA_BOUND bytes never meets 16: where the rule and the table pass, the call is served.
use mathlib.Core.Path.{◌≡◌, ◌∙◌}
use mathlib.Core.List.{List}
use Prim.Native.Nat.{ℕ, ◌≤◌}
use native.Mathlib.Omega.{arith}
use lib.ListN.{length}
use Rattle.file_spec.specs.File.{rule_in}
use Rattle.file_spec.specs.Rows.{file_row}
use Rattle.file_read.proofs.FileRows.{accepted-passing}
use Rattle.table_lent.specs.Lent.{Lent, table_row_lem}
use Rattle.hoa_write.specs.Written.{write_row, bound}
use Rattle.hoa_write.proofs.Room.{bound-suffices}
use Rattle.hoa_write.proofs.Rows.{call-served, file-passes}

pub bound-served : (f : List ℕ) (codes transitions : Lent) (room : ℕ) → file_row f ≡ 0 → table_row_lem (rule_in f).s codes transitions ≡ 0
    → bound (length codes.numbers) (length transitions.numbers) ≤ room → write_row f codes transitions room ≡ 0
bound-served f codes transitions room e t h =
    let s = (rule_in f).s in
    let i = (rule_in f).initial in
    let few = bound-suffices s i codes transitions (accepted-passing f e).formed.few_letters t in
    file-passes f codes transitions room e ∙ call-served s i codes transitions room t (omega (arith, few, h))
