-- `edge_length` meets its contract: the label and the target are short.
use Rattle.std.proofs.Common.{arith}
use Rattle.hoa_laws.proofs.Lengths.{word-short, label-length, edge-length}
use Rattle.hoa_text.proofs.lengths.edge_length.Goals as goal

pub overflow_add-result : goal.overflow_add-result
overflow_add-result c = omega (arith, label-length c.args.b c.args.letter (omega arith), word-short c.args.target (omega arith))

pub overflow_add-result-2 : goal.overflow_add-result-2
overflow_add-result-2 c = omega (arith, label-length c.args.b c.args.letter (omega arith), word-short c.args.target (omega arith))

pub returns : goal.returns
returns c = omega (arith, edge-length c.args.b c.args.letter c.args.target)
