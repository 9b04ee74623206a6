-- `is_astray` meets its contract.
use Prim.Native.Nat.{◌<◌}
use mathlib.Core.Path.{sym}
use native.Mathlib.Omega.{arith}
use borrow.Author.Rules.{rules}
use Rattle.theory.specs.Run.{source_of, letter_of_lem, target_of}
use Rattle.table_rows.proofs.Faults.{source-astray, letter-astray, target-astray, in-range}
use Rattle.table_rows.proofs.checks.is_astray.Statement.{statement}
use Rattle.table_rows.proofs.checks.is_astray.Tie as tie

returns-3 : tie.Need-returns-then-n-target_of
returns-3 c = let start : tie.Start = search in let a = start.args in sym (target-astray a.n a.s a.t (omega arith))

returns-4 : tie.Need-returns
returns-4 c =
    let start : tie.Start = search in let a = start.args in let source : source_of a.t < a.n = omega arith in let letter : letter_of_lem a.t < a.s = omega arith in
    let target : target_of a.t < a.n = omega arith in sym (in-range a.n a.s a.t source letter target)

pub is_astray_spec : {M : Type 1} → statement M
is_astray_spec = tie.close (tie.spec
    (λ c κs. search rules) (λ c. let start : tie.Start = search in let a = start.args in sym (source-astray a.n a.s a.t (omega arith))) (λ c κs. search rules)
    (λ c. let start : tie.Start = search in let a = start.args in sym (letter-astray a.n a.s a.t (omega arith))) (λ c κs. search rules) returns-3
    returns-4)
