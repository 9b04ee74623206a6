-- `write_way` meets its contract: the letters of the steps from number k on are written, and k steps lead back from x to the origin.
use Rattle.std.proofs.Common.{length}
use Rattle.stricter_laws.specs.Pairs.{PairStep}
use Rattle.stricter_laws.specs.Forest.{kind_in, Trail}
use Rattle.stricter_laws.proofs.Routes.{Writing}
use Rattle.stricter_word.proofs.lasso.write_way.Given as goal

abbrev pub invariant-loop-k : goal.invariant-loop-k
invariant-loop-k l = record {
  trail : Trail (PairStep (length l.rcodes) l.left l.right) (kind_in l.lcodes l.rcodes) l.origin l.marks l.x l.k;
  written : Writing (PairStep (length l.rcodes) l.left l.right) l.y l.at l.n l.fn.word l.x l.k l.word;
}
