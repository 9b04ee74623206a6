-- `file_names::names_fit` meets its contract.
use mathlib.Core.Path.{◌≡◌, sym, ◌∙◌}
use mathlib.Core.Bool.{true, false}
use borrow.Author.Rules.{rules}
use Rattle.file_spec.specs.Names.{has_names_lem}
use Rattle.file_spec.proofs.Names.{names-long}
use Rattle.file_names.proofs.Tests.{fit-decides}
use Rattle.file_names.proofs.names_fit.Statement.{statement}
use Rattle.file_names.proofs.names_fit.Tie as tie

returns : tie.Need-returns-then-not-has_names
returns c = let start : tie.Start = search in let none : has_names_lem start.args.p.now ≡ false = sym c.before.has_names.ensures ∙ c.if-not-has_names.true in rw none

-- the preface ends with 4E 4D
there : (c : tie.Else-not-has_names) → let start : tie.Start = search in has_names_lem start.args.p.now ≡ true
there c = sym c.before.has_names.ensures ∙ c.if-not-has_names.false

sub-result : tie.Need-overflow_sub-result
sub-result c = let start : tie.Start = search in let a = start.args in names-long a.s a.p.now (there c)

pub names_fit_spec : {M : Type 1} → statement M
names_fit_spec = tie.close (tie.spec (λ c κs. search rules) returns (λ c. search rules) sub-result (λ c. fit-decides _ _ (there c)))
