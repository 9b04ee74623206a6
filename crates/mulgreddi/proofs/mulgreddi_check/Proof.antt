-- `mulgreddi_check` meets its contract: its numbers are those of what the reader answers.
use borrow.Author.Rules.{rules}
use mathlib.Core.Path.{ap, sym, ◌∙◌}
use Rattle.mulgreddi_answers.specs.Answers.{refused_as}
use Rattle.mulgreddi.proofs.Checks.{checked-served, checked_refused}
use Rattle.mulgreddi.proofs.mulgreddi_check.Statement.{statement}
use Rattle.mulgreddi.proofs.mulgreddi_check.Tie as tie

returns : tie.Need-returns-in-Ok
returns c =
    let start : tie.Start = search in let at-layout : tie.In-Ok = search in let at-read-rule : tie.After-read_rule = search in
    checked-served start.args.file.now at-layout.in-Ok.layout _
    (sym at-read-rule.read_rule.ensures ∙ at-layout.in-Ok.is) c.checked.ensures

returns-2 : tie.Need-returns-in-Err
returns-2 c = let start : tie.Start = search in let at_row : tie.In-Err = search in let at-read-rule : tie.After-read_rule = search in
    let at-number : tie.After-row = search in
    checked_refused start.args.file.now at_row.in-Err.refusal _
    (sym at-read-rule.read_rule.ensures ∙ at_row.in-Err.is) (c.refused.ensures ∙ ap refused_as at-number.row.ensures)

pub mulgreddi_check_spec : {M : Type 1} → statement M
mulgreddi_check_spec = tie.close (tie.spec
    (λ c κs. search rules) (λ c. search rules) (λ c κs. search rules) (λ c. search rules) (λ c κs. search rules) (λ c κs. search rules) returns returns-2)
