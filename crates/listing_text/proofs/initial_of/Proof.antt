-- `listing_text::initial_of` meets its contract.
use Prim.Native.Nat.{◌<◌}
use mathlib.Core.Path.{◌≡◌, sym, ◌∙◌, ap}
use native.Mathlib.Omega.{arith}
use borrow.Author.Rules.{rules}
use Rattle.file_spec.specs.declared.Layout.{Layout}
use Rattle.file_spec.specs.File.{trailer}
use Rattle.file_read.proofs.Answer.{Served, served, turned-away}
use Rattle.listing_text.proofs.initial_of.Statement.{statement}
use Rattle.listing_text.proofs.initial_of.Tie as tie

-- the file is accepted
accepted : (c : tie.In-Ok) → let start : tie.Start = search in Served start.args.file.now c.in-Ok.l
accepted c = let start : tie.Start = search in let at-read-rule : tie.After-read_rule = search in
    served start.args.file.now c.in-Ok.l (sym at-read-rule.read_rule.ensures ∙ c.in-Ok.is)

initial_is : (c : tie.In-Ok) → let start : tie.Start = search in c.in-Ok.l.head.initial ≡ trailer start.args.file.now 2
initial_is c = ap (λ (l : Layout). l.head.initial) (accepted c).layout

small : (c : tie.In-Ok) → c.in-Ok.l.head.initial < 8
small c = let F = (accepted c).passing.formed in omega (arith, initial_is c, F.initial_state, F.few_states)

returns : tie.Need-returns-in-Err
returns c = let k = c.in-Err.field-0 in let start : tie.Start = search in let at-read-rule : tie.After-read_rule = search in
    let t = turned-away start.args.file.now k (sym at-read-rule.read_rule.ensures ∙ c.in-Err.is) in (omega arith, λ e. absurd (t.2 e))

pub initial_of_spec : {M : Type 1} → statement M
initial_of_spec = tie.close (tie.spec
    (λ c κs. search rules) (λ c. search rules) (λ c. search rules) (λ c. omega (arith, small (search))) returns (λ c. (small (search), λ e. initial_is (search))))
