-- `kind` meets its contract.
use mathlib.Core.Path.{sym, ◌∙◌}
use borrow.Author.Rules.{rules}
use Rattle.stricter_word.proofs.explore.kind.Statement.{statement}
use Rattle.stricter_word.proofs.explore.kind.Tie as tie

returns : tie.Need-returns-then-is_accepting-2
returns c = let at-is-accepting : tie.After-is_accepting = search in let then1 : tie.Then-is_accepting = search in
    rw (sym at-is-accepting.is_accepting.ensures ∙ then1.if-is_accepting.true, sym c.before.is_accepting-then-is_accepting.ensures ∙ c.if-is_accepting-2.true)

returns-2 : tie.Need-returns-then-is_accepting
returns-2 c = let at-is-accepting : tie.After-is_accepting = search in let then1 : tie.Then-is_accepting = search in
    rw (sym at-is-accepting.is_accepting.ensures ∙ then1.if-is_accepting.true, sym c.before.is_accepting-then-is_accepting.ensures ∙ c.if-is_accepting-2.false)

returns-3 : tie.Need-returns-then-is_accepting-3
returns-3 c = let at-is-accepting : tie.After-is_accepting = search in let else1 : tie.Else-is_accepting = search in
    rw (sym at-is-accepting.is_accepting.ensures ∙ else1.if-is_accepting.false, sym c.before.is_accepting-2.ensures ∙ c.if-is_accepting-3.true)

returns-4 : tie.Need-returns
returns-4 c = let at-is-accepting : tie.After-is_accepting = search in let else1 : tie.Else-is_accepting = search in
    rw (sym at-is-accepting.is_accepting.ensures ∙ else1.if-is_accepting.false, sym c.before.is_accepting-2.ensures ∙ c.if-is_accepting-3.false)

pub kind_spec : {M : Type 1} → statement M
kind_spec = tie.close (tie.spec (λ c κs. search rules) (λ c κs. search rules) returns returns-2 (λ c κs. search rules) returns-3 returns-4)
