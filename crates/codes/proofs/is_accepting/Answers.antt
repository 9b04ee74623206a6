-- `codes::is_accepting` meets its contract.
use Rattle.std.proofs.Common.{rules}
use Rattle.theory.specs.Macrostate.{is_accepting_lem}
use Rattle.codes.proofs.is_accepting.Goals as goal

pub returns : goal.returns
unfolding is_accepting_lem
returns c = search rules
