-- `flag` meets its contract: the codes before the index have their marks, and the others are as they were.
use Rattle.std.proofs.Common.{◌≡◌, get_or, arith}
use Rattle.theory_laws.proofs.Tagged.{none-flagged, flag-next, all-flagged}
use Rattle.trim.proofs.marks.flag.Goals as goal

pub loop-c-init : goal.loop-c-init
loop-c-init c = none-flagged _ c.requires

pub flagged-requires : goal.flagged-requires
flagged-requires c = let i = c.loop-c.c-index in
    let e : get_or c.loop-c.codes i 0 ≡ get_or c.args.codes.now i 0 = c.loop-c.invariant.rest i (omega arith) in omega (arith, c.requires i)

pub loop-c-preserved : goal.loop-c-preserved
loop-c-preserved c = rw c.flagged.ensures (flag-next c.args.codes.now c.requires c.loop-c.c-index c.loop-c.codes (omega arith) c.loop-c.invariant)

pub returns : goal.returns
returns c = all-flagged c.args.codes.now c.requires c.loop-c.c-index c.loop-c.codes (omega arith) c.loop-c.invariant
