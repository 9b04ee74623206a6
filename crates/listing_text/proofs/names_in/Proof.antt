-- `listing_text::names_in` meets its contract.
use mathlib.Core.Path.{sym, ◌∙◌}
use borrow.Author.Rules.{rules}
use Rattle.file_read.proofs.Answer.{turned-away}
use Rattle.listing_text.proofs.names_in.Statement.{statement}
use Rattle.listing_text.proofs.names_in.Tie as tie

names-of-requires : tie.Need-names_of-requires
names-of-requires c κs = let at-read-rule : tie.After-read_rule = search in sym at-read-rule.read_rule.ensures ∙ c.in-Ok.is

returns : tie.Need-returns-in-Err
returns c =
    let k = c.in-Err.field-0 in let start : tie.Start = search in let at-read-rule : tie.After-read_rule = search in
    let t = turned-away start.args.file.now k (sym at-read-rule.read_rule.ensures ∙ c.in-Err.is) in λ e. absurd (t.2 e)

pub names_in_spec : {M : Type 1} → statement M
names_in_spec = tie.close (tie.spec
    (λ c κs. search rules) (λ c. search rules) (λ c. search rules) (λ c. search rules) names-of-requires returns (λ c. search rules))
