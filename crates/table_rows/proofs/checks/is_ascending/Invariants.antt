-- `is_ascending` meets its contract: the test of the whole list is that of what is left of it, after `last`.
use Rattle.std.proofs.Common.{◌≡◌, take, drop}
use Rattle.slice_search.specs.Places.{ascends, ascends_from}
use Rattle.table_lent.specs.Lent.{in_both}
use Rattle.table_rows.proofs.checks.is_ascending.Given as goal

abbrev pub invariant-loop-i : goal.invariant-loop-i
invariant-loop-i l = let xs = take l.n (in_both l.words l.bytes).numbers in ascends xs ≡ ascends_from l.last (drop l.i xs)
