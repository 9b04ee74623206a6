-- `event_table::marked` meets its contract.
use Prim.Native.Nat.{◌*◌, ◌^◌}
use mathlib.Core.Path.{ap, sym, ◌∙◌}
use mathlib.Core.Bool.{Bool}
use native.Mathlib.Omega.{arith}
use native.Mathlib.Nat.{one-mul}
use Rattle.sets.specs.Tests.{one}
use Rattle.sets.proofs.Bits.{shl_one}
use borrow.Author.Rules.{rules}
use Rattle.event_table.proofs.marked.Statement.{statement}
use Rattle.event_table.proofs.marked.Tie as tie

returns : tie.Need-returns-then-yes
returns c = let a = c.before.args in shl_one 64 a.j c.before.requires ∙ sym (one-mul (2 ^ a.j)) ∙ ap (λ (b : Bool). one b * 2 ^ a.j) (sym c.if-yes.true)

pub marked_spec : {M : Type 1} → statement M
marked_spec = tie.close (tie.spec (λ c. search rules) returns (λ c. rw c.if-yes.false (omega arith)))
