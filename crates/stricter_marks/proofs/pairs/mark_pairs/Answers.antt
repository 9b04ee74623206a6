-- `mark_pairs` meets its contract: without cores nothing is in; else the marks are those that narrowing leaves, and spread.
use Rattle.std.proofs.Common.{sym, ◌∙◌, arith}
use mathlib.Core.Bool.{and-false}
use Rattle.stricter_laws.proofs.Fitting.{fits-same}
use Rattle.stricter_marks.proofs.Joined.{cores-low, only-cores, nothing-sorted}
use Rattle.stricter_marks.proofs.pairs.mark_pairs.Goals as goal

pub returns-then-none_stands : goal.returns-then-none_stands
returns-then-none_stands c =
    nothing-sorted _ _ _ _ _ _ _ _ c.requires.cores_fit.0.marked (λ i j k l. rw (c.none_stands.ensures c.if-none_stands.true i k))

pub returns-then-none_stands-2 : goal.returns-then-none_stands-2
returns-then-none_stands-2 c =
    nothing-sorted _ _ _ _ _ _ _ _ c.requires.cores_fit.0.marked (λ i j k l. rw (c.none_stands-2.ensures c.if-none_stands-2.true j l, and-false))

pub narrow-requires-clause-cores_fit : goal.narrow-requires-clause-cores_fit
narrow-requires-clause-cores_fit c = let I = c.place_cores.ensures in
    (fits-same _ (I.long ∙ sym c.requires.cores_fit.0.marked) c.requires.cores_fit.0, only-cores I, cores-low I, omega arith, omega arith)
