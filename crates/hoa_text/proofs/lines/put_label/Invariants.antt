-- `put_label` meets its contract: the literals of the first i propositions are written.
use Rattle.slice_text.specs.Put.{Put}
use Rattle.hoa_spec.specs.Lines.{label}
use Rattle.hoa_text.proofs.lines.put_label.Given as goal

abbrev pub invariant-loop-i : goal.invariant-loop-i
invariant-loop-i l = Put l.fn.out l.at (label l.i l.letter) l.out l.end
