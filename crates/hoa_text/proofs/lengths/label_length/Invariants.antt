-- `label_length` meets its contract: the label of the first i propositions is counted.
use Rattle.std.proofs.Common.{◌≡◌, length}
use Rattle.hoa_spec.specs.Lines.{label}
use Rattle.hoa_text.proofs.lengths.label_length.Given as goal

abbrev pub invariant-loop-i : goal.invariant-loop-i
invariant-loop-i l = l.total ≡ length (label l.i l.letter)
