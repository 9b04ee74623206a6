-- `word_spelling::cycle_length` meets its contract: d is the first length that serves, and that of the cycle itself serves.
use Rattle.std.proofs.Common.{◌≡◌, ◌∙◌, length, sym, arith}
use Rattle.word_spelling_spec.proofs.Tidied.{own-again}
use Rattle.word_spelling.proofs.Walks.{none_first, none-next, found}
use Rattle.word_spelling.proofs.cycle_length.Goals as goal

pub loop-d-init : goal.loop-d-init
loop-d-init c = none_first c.args.cycle.now

pub returns-then-comes_again : goal.returns-then-comes_again
returns-then-comes_again c = sym (found c.args.cycle.now c.loop-d.d (omega arith) (sym c.comes_again.ensures ∙ c.if-comes_again.true) c.loop-d.invariant)

pub loop-d-preserved : goal.loop-d-preserved
loop-d-preserved c = none-next c.args.cycle.now c.loop-d.d (omega arith) (sym c.comes_again.ensures ∙ c.if-comes_again.false) c.loop-d.invariant

pub returns : goal.returns
returns c = let v = c.args.cycle.now in let e : c.loop-d.d ≡ length v = omega (arith, c.requires) in
    sym (found v (length v) (omega arith) (own-again v c.requires) (rw e at c.loop-d.invariant))
