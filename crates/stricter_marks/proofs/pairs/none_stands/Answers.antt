-- `none_stands` meets its contract: where all differ from their place, none stands.
use Rattle.std.proofs.Common.{rules}
use Rattle.std.proofs.iter.runs.Made.{chains}
use Rattle.stricter_spec.specs.Steps.{stands_in}
use Rattle.stricter_marks.proofs.pairs.none_stands.Goals as goal

pub returns : goal.returns
unfolding stands_in
returns c = search (rules, chains)
