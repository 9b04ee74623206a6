-- `tidy_entry` meets its contract: the first k elements are what stays of the clauses passed.
use Rattle.std.proofs.Common.{◌≡◌, ◌≤◌, take, drop}
use Rattle.rule_tidy_spec.specs.Tidy.{tidy_from, tidy_entry_lem}
use Rattle.rule_tidy.proofs.tidy_entry.Given as goal

abbrev pub invariant-loop-c : goal.invariant-loop-c
invariant-loop-c l = record {
  few : l.k ≤ l.c-index;
  rest : drop l.k l.out ≡ drop l.k l.fn.out;
  front : tidy_from 8 l.clauses (take l.k l.out) (drop l.c-index l.clauses) ≡ tidy_entry_lem 8 l.clauses;
}
