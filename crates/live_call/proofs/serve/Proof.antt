-- `live_call::serve` meets its contract: the call's effect, counted.
use mathlib.Core.Path.{sym}
use borrow.Author.Rules.{rules}
use Rattle.live_call.proofs.serve.Statement.{statement}
use Rattle.live_call.proofs.serve.Tie as tie

returns : tie.Need-returns
returns c =
    let at-change : tie.After-change = search in let at_count : tie.After-count = search in rw (sym at-change.change.ensures) at_count.count.ensures

pub serve_spec : {M : Type 1} → statement M
serve_spec = tie.close (tie.spec (λ c κs. search rules) (λ c κs. search rules) (λ c. search rules) (λ c. search rules) returns)
