-- `build_cores::opens::marked` meets its contract.
use Prim.Native.Nat.{◌*◌, ◌^◌}
use mathlib.Core.Path.{ap, sym, ◌∙◌}
use mathlib.Core.Bool.{Bool}
use native.Mathlib.Omega.{arith}
use Rattle.sets.specs.Tests.{one}
use Rattle.build_cores.proofs.Table.{shifted}
use borrow.Author.Rules.{rules}
use Rattle.build_cores.proofs.opens.marked.Statement.{statement}
use Rattle.build_cores.proofs.opens.marked.Tie as tie

returns : tie.Need-returns-then-yes
returns c = shifted c.before.args.q (omega arith) ∙ ap (λ (b : Bool). one b * 2 ^ c.before.args.q) (sym c.if-yes.true)

pub marked_spec : {M : Type 1} → statement M
marked_spec = tie.close (tie.spec (λ c. search rules) (λ c. search rules) returns (λ c. rw c.if-yes.false (omega arith)))
