-- `sweep_out` meets its contract: what a sweep marks has a walk, and after the last none is left to mark.
use Rattle.std.proofs.Common.{arith}
use Rattle.stricter_laws.proofs.Tries.{marking-sum, swept-end}
use Rattle.stricter_cores.proofs.sweep_out.Goals as goal

pub loop-ask-smaller : goal.loop-ask-smaller
loop-ask-smaller c =
    omega (arith, c.sweep.ensures.grown c.loop-ask-test.true, marking-sum c.requires.2 (c.sweep.ensures.marking c.args.marks.now c.requires.2 c.loop-ask.invariant))

pub returns : goal.returns
returns c = swept-end c.requires.0.fits.marked c.requires.2 c.loop-ask.invariant (rw c.loop-ask-test.false at c.sweep.ensures)
