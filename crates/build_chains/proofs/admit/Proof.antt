-- `build_chains::admit` meets its contract.
use mathlib.Core.Path.{refl}
use native.Mathlib.Omega.{arith}
use borrow.Author.Rules.{rules}
use Rattle.build_spec.proofs.Appended.{appended-none, appended-full}
use Rattle.build_spec.proofs.Growth.{grown-put}
use Rattle.build_chains.proofs.admit.Statement.{statement}
use Rattle.build_chains.proofs.admit.Tie as tie

returns : tie.Need-returns-then-find-n
returns c = let start : tie.Start = search in let p = start.requires in appended-none p.0 (λ y e. rw e (c.before.find.result, c.if-find-n.true, c.before.find.ensures.hit c.if-find-n.true))

returns-2 : tie.Need-returns-then-n-keys
returns-2 c = let start : tie.Start = search in let p = start.requires in let at-find : tie.After-find = search in
    appended-full p.0 start.args.key refl (at-find.find.ensures.none c.before.if-find-n.false) (omega (arith, c.if-n-keys.true, p.0.fits, p.0.few))

put-requires : tie.Need-put-requires
put-requires c κs = let start : tie.Start = search in let p = start.requires in let else2 : tie.Else-n-keys = search in (p.0, omega (arith, p.0.fits, else2.if-n-keys.false), p.1)

add-t6 : tie.Need-overflow_add-result
add-t6 c = let start : tie.Start = search in let p = start.requires in omega (arith, p.0.fits, p.0.few)

returns-3 : tie.Need-returns
returns-3 c =
    let start : tie.Start = search in let p = start.requires in let at-put : tie.After-put = search in let e = at-put.put.ensures in let else1 : tie.Else-find-n = search in
    let at-find : tie.After-find = search in let else2 : tie.Else-n-keys = search in
    rw (e.0, e.1, e.2) (grown-put p.0 start.args.key (at-find.find.ensures.none else1.if-find-n.false)
    (omega (arith, p.0.fits, else2.if-n-keys.false)) p.1)

pub admit_spec : {M : Type 1} → statement M
admit_spec = tie.close (tie.spec
    (λ c κs. search rules) (λ c. search rules) returns (λ c. search rules) returns-2 put-requires add-t6 (λ c. search rules) returns-3)
