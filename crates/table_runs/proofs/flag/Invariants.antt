-- `flag` meets its contract: the nodes before x are flagged.
use Rattle.std.proofs.Common.{◌%◌, length, get_or}
use Rattle.table_lent.specs.Lent.{in_both}
use Rattle.table_runs.specs.Tracks.{flag_of_lem}
use Rattle.table_runs.proofs.Flagging.{MarkedTo}
use Rattle.table_runs.proofs.flag.Given as goal

abbrev pub invariant-loop-x : goal.invariant-loop-x
invariant-loop-x l = let n = (in_both l.codes l.codebytes).numbers in MarkedTo l.fn.marks (λ j. flag_of_lem (get_or n (j % length n) 0)) l.x l.marks
