-- `file_read::names_of` meets its contract: the names are where the reader told.
use Prim.Native.Nat.{◌+◌, ◌<◌, ◌≤◌}
use native.Mathlib.Omega.{arith}
use borrow.Author.Rules.{rules}
use Rattle.file_read.proofs.Answer.{Served, served, names-none, names-there}
use Rattle.file_read.proofs.names_of.Statement.{statement}
use Rattle.file_read.proofs.names_of.Tie as tie

returns : tie.Need-returns-then-count-eq0
returns c = let start : tie.Start = search in let a = start.args in names-none a.f.now a.l start.requires c.if-count-eq0.true

-- there are names
some-names : (c : tie.Else-count-eq0) → 0 < c.before.args.l.names
some-names c = omega (arith, c.if-count-eq0.false)

known : (c : tie.Else-count-eq0) → Served c.before.args.f.now c.before.args.l
known c = let a = c.before.args in served a.f.now a.l c.before.requires

-- so they stand before the first clause, and two bytes more
room : (c : tie.Else-count-eq0) → c.before.args.l.names + 2 ≤ c.before.args.l.at
room c = (known c).names-inside (some-names c)

returns-2 : tie.Need-returns
returns-2 c = let start : tie.Start = search in let a = start.args in names-there a.f.now a.l start.requires (some-names (search))

pub names_of_spec : {M : Type 1} → statement M
names_of_spec = tie.close (tie.spec
    (λ c. search rules) returns (λ c. omega (arith, room c.before)) (λ c. omega (arith, room c.before)) (λ c. search rules) (λ c. search rules)
    (λ c. omega (arith, room c.before, (known c.before).bounds)) returns-2)
