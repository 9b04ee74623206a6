-- `table_runs::flag_of` meets its contract.
use mathlib.Core.Path.{sym, ◌∙◌}
use Rattle.table_runs.proofs.Flagging.{flag-accepting, flag-other}
use borrow.Author.Rules.{rules}
use Rattle.table_runs.proofs.flag_of.Statement.{statement}
use Rattle.table_runs.proofs.flag_of.Tie as tie

pub flag_of_spec : {M : Type 1} → statement M
flag_of_spec = tie.close (tie.spec
    (λ c κs. search rules) (λ c. let start : tie.Start = search in sym (flag-accepting start.args.code (sym c.before.is_accepting.ensures ∙ c.if-is_accepting.true)))
    (λ c. let start : tie.Start = search in sym (flag-other start.args.code (sym c.before.is_accepting.ensures ∙ c.if-is_accepting.false))))
