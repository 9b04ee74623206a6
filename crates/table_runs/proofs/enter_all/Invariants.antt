-- `enter_all` meets its contract: the transitions before i are done.
use Rattle.std.proofs.Common.{◌≡◌, drop}
use Rattle.table_lent.specs.Lent.{in_both}
use Rattle.table_runs.specs.Tracks.{entered_all}
use Rattle.table_runs.proofs.enter_all.Given as goal

abbrev pub invariant-loop-i : goal.invariant-loop-i
invariant-loop-i l = let ts = (in_both l.moves l.movebytes).numbers in
    entered_all l.letter l.here l.there ts l.fn.marks ≡ entered_all l.letter l.here l.there (drop l.i ts) l.marks
