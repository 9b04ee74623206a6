-- `rewrite_all` meets its contract: the first w transitions are what is left of those before i.
use Rattle.trim_spec.specs.Tagged.{highs, rewritten}
use Rattle.trim.proofs.Compacting.{Compacting}
use Rattle.trim.proofs.number.rewrite_all.Given as goal

abbrev pub invariant-loop-i : goal.invariant-loop-i
invariant-loop-i l = Compacting (rewritten (highs l.codes)) l.fn.transitions l.transitions l.w l.i
