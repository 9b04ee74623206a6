-- `take_label` meets its contract: the literals of the first i propositions were read.
use Rattle.hoa_laws.proofs.Labels.{Labelled}
use Rattle.hoa_read_parts.proofs.lines.take_label.Given as goal

abbrev pub invariant-loop-i : goal.invariant-loop-i
invariant-loop-i l = Labelled l.text l.p l.i l.letter l.end
