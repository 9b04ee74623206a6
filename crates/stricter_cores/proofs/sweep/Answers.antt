-- `sweep` meets its contract: the row of i is tried after those before it.
use Rattle.std.proofs.Common.{refl, arith}
use native.Mathlib.Nat.{suc-mul}
use native.Mathlib.Numerals.{add-one}
use Rattle.stricter_laws.proofs.Fitting.{ready-same}
use Rattle.stricter_laws.proofs.Tries.{tried_then, begun-only, begun-next}
use Rattle.stricter_cores.proofs.sweep.Goals as goal

pub visit_row-changed-requires : goal.visit_row-changed-requires
visit_row-changed-requires c =
    (ready-same _ c.loop-i.invariant.long c.requires.0, begun-only (begun-next c.loop-i.invariant c.requires.3), omega arith, c.requires.1, c.requires.2)

pub loop-i-preserved : goal.loop-i-preserved
loop-i-preserved c = rw (add-one c.loop-i.i, suc-mul c.loop-i.i c.args.nb) (tried_then _ c.loop-i.invariant c.visit_row-changed.ensures refl)
