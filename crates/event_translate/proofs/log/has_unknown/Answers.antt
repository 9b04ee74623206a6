-- `has_unknown` meets its contract: an event is known where its masks meet.
use Rattle.std.proofs.Common.{◌+◌, ◌*◌, refl, sym, ◌∙◌, arith}
use Rattle.sets.specs.Tests.{some_below}
use Rattle.event_translate.proofs.Letters.{in-none, in_some, unknown-here, known_next, known-all}
use Rattle.event_translate.proofs.log.has_unknown.Goals as goal

pub loop-k-init : goal.loop-k-init
unfolding some_below
loop-k-init c = λ t m. refl

pub loop-k-preserved : goal.loop-k-preserved
loop-k-preserved c = λ t m. let a = c.args in let k = c.loop-k.k in let byte = c.type_inv.log in known_next t a.log.now k (c.loop-k.invariant t m)
    (in_some t a.kinds.now a.drives.now a.log.now m k (byte (2 * k)).fits (byte (2 * k + 1)).fits (λ z. c.if-lines_of-eq0.false (c.lines_of.ensures ∙ z)))

pub returns-then-lines_of-eq0 : goal.returns-then-lines_of-eq0
returns-then-lines_of-eq0 c = λ t m. let a = c.args in let k = c.loop-k.k in let byte = c.type_inv.log in sym (unknown-here t a.log.now k c.loop-k-test.true
    (in-none t a.kinds.now a.drives.now a.log.now m k (byte (2 * k)).fits (byte (2 * k + 1)).fits (sym c.lines_of.ensures ∙ c.if-lines_of-eq0.true)))

pub returns : goal.returns
returns c = λ t m. sym (known-all t c.args.log.now c.loop-k.k (omega arith) (c.loop-k.invariant t m))
