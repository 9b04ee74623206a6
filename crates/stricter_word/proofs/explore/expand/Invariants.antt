-- `expand` meets its contract: the transitions of number j before place k were tried.
use Rattle.std.proofs.Common.{ℕ, ◌+◌, ◌*◌}
use Rattle.stricter_laws.specs.Pairs.{PairStep, RowCut}
use Rattle.stricter_laws.specs.Forest.{Tried}
use Rattle.stricter_laws.proofs.Rows.{Walked}
use Rattle.stricter_word.proofs.explore.expand.Given as goal

abbrev pub invariant-loop-k : goal.invariant-loop-k
invariant-loop-k l = (i : ℕ) → RowCut l.left i l.cuts
    → Tried (PairStep l.nb l.left l.right (i * l.nb + l.j)) (Walked l.nb l.left l.right l.j l.cuts l.k) l.base l.fn.marks l.marks
