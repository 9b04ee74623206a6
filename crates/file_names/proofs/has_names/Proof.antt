-- `file_names::has_names` meets its contract: the two bytes of the tag, compared one after the other.
use Prim.Native.Nat.{◌-◌, ◌≤◌}
use mathlib.Core.Path.{◌≡◌}
use native.Mathlib.Omega.{arith}
use borrow.Author.Rules.{rules}
use lib.ListN.{length, get_or}
use Rattle.file_names.proofs.Tests.{few_bytes, first-differs, last-decides}
use Rattle.file_names.proofs.has_names.Statement.{statement}
use Rattle.file_names.proofs.has_names.Tie as tie

returns-2 : tie.Need-returns-then-p-m
returns-2 c =
    let start : tie.Start = search in let p = start.args.p.now in let else1 : tie.Else-m-lt2 = search in let long : 2 ≤ length p = omega (arith, else1.if-m-lt2.false) in
    let differs : (get_or p (length p - 2) 0 ≡ 0x4E → ⊥) = λ e. omega (arith, c.if-p-m.true) in first-differs p long differs

returns-3 : tie.Need-returns
returns-3 c =
    let start : tie.Start = search in let p = start.args.p.now in let else1 : tie.Else-m-lt2 = search in let long : 2 ≤ length p = omega (arith, else1.if-m-lt2.false) in
    let same : get_or p (length p - 2) 0 ≡ 0x4E = omega (arith, c.before.if-p-m.false) in last-decides p long same

pub has_names_spec : {M : Type 1} → statement M
has_names_spec = tie.close (tie.spec
    (λ c. few_bytes c.before.args.p.now (omega arith)) (λ c. search rules) (λ c. search rules) returns-2 (λ c. search rules) (λ c. search rules)
    (λ c. search rules) returns-3)
