-- `file_names::names_in` meets its contract: 8 bytes a letter, up to 4E 4D.
use Prim.Native.Nat.{◌-◌, ◌*◌, ◌≤◌}
use mathlib.Core.Path.{◌≡◌, sym, ◌∙◌}
use mathlib.Core.Bool.{true}
use native.Mathlib.Omega.{arith}
use borrow.Author.Rules.{rules}
use lib.ListN.{length}
use Rattle.file_spec.specs.Names.{has_names_lem}
use Rattle.file_spec.proofs.Names.{names-long, names-room, names-there, no_names}
use Rattle.file_names.proofs.names_in.Statement.{statement}
use Rattle.file_names.proofs.names_in.Tie as tie

returns : tie.Need-returns-then-not-has_names
returns c = let at-has-names : tie.After-has_names = search in sym (no_names _ _ (sym at-has-names.has_names.ensures ∙ c.if-not-has_names.true))

-- the preface ends with 4E 4D
there : (c : tie.Else-not-has_names) → let start : tie.Start = search in has_names_lem start.args.p.now ≡ true
there c = sym c.before.has_names.ensures ∙ c.if-not-has_names.false

-- and has room for the names
room : (c : tie.Else-not-has_names) → let start : tie.Start = search in 8 * start.args.s ≤ length start.args.p.now - 2
room c = let start : tie.Start = search in let a = start.args in names-room a.s a.p.now (there c) start.requires.1

sub-end : tie.Need-overflow_sub-end
sub-end c = let start : tie.Start = search in let a = start.args in names-long a.s a.p.now (there c)

returns-2 : tie.Need-returns
returns-2 c =
    let start : tie.Start = search in let a = start.args in let p = a.p.now in let m = length p - 2 in let k : m - (m - 8 * a.s) ≡ 8 * a.s = omega (arith, room c.before) in
    rw k (sym (names-there a.s p (there c.before)))

pub names_in_spec : {M : Type 1} → statement M
names_in_spec = tie.close (tie.spec
    (λ c κs. search rules) (λ c. search rules) returns sub-end (λ c. search rules) (λ c. room c) (λ c. search rules) (λ c. search rules)
    (λ c. search rules) returns-2)
