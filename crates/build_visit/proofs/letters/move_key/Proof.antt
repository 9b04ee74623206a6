-- `build_visit::letters::move_key` meets its contract.
use mathlib.Core.Path.{sym, ◌∙◌}
use native.Mathlib.Omega.{arith}
use lib.Bits.{and_mask}
use borrow.Author.Rules.{rules}
use Rattle.build_spec.proofs.Appended.{appended-none, appended-as}
use Rattle.build_spec.proofs.Moves.{key-onward}
use Rattle.build_visit.proofs.letters.move_key.Statement.{statement}
use Rattle.build_visit.proofs.letters.move_key.Tie as tie

returns : tie.Need-returns-then-key-step
returns c = let start : tie.Start = search in appended-none start.requires.0 (λ y h. absurd (c.if-key-step.true h.from))

onward-requires : tie.Need-onward-pair-requires
onward-requires c κs = let start : tie.Start = search in let p = start.requires in let e = and_mask start.args.key 8 in (omega (arith, e), omega (arith, e, p.1), p.2)

admit-requires : tie.Need-admit-requires
admit-requires c κs =
    let start : tie.Start = search in let a = start.args in let p = start.requires in let at_Onward : tie.After-onward-pair = search in
    let k = key-onward a.step.ranks a.parts.now a.step.components a.levels.now a.step.core a.key p.2 p.1 p.3 at_Onward.onward-pair.ensures in
    (p.0, rw k.0 k.1)

returns-2 : tie.Need-returns
returns-2 c = let start : tie.Start = search in let a = start.args in let p = start.requires in let at_Onward : tie.After-onward-pair = search in
    let k = key-onward a.step.ranks a.parts.now a.step.components a.levels.now a.step.core a.key p.2 p.1 p.3 at_Onward.onward-pair.ensures in
    let at-admit : tie.After-admit = search in appended-as at-admit.admit.ensures (λ t z h. h.to ∙ sym k.0) (λ z h. record { from = at_Onward.before.if-key-step.false; to = h ∙ k.0 })

pub move_key_spec : {M : Type 1} → statement M
move_key_spec = tie.close (tie.spec returns onward-requires admit-requires (λ c. search rules) returns-2)
