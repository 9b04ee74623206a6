-- `compact` meets its contract: the first w codes are what is left of those before i.
use Rattle.trim_spec.specs.Tagged.{compacted}
use Rattle.trim.proofs.Compacting.{Compacting}
use Rattle.trim.proofs.number.compact.Given as goal

abbrev pub invariant-loop-i : goal.invariant-loop-i
invariant-loop-i l = Compacting compacted l.fn.codes l.codes l.w l.i
