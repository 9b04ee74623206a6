-- `named_in` meets its contract: a state is found already or named in a clause from the index on.
use Rattle.std.proofs.Common.{ℕ, ◌≡◌, ◌<◌, ◌||◌, drop}
use Rattle.sets.specs.Masks.{bit}
use Rattle.theory.specs.Components.{named}
use Rattle.rule_entries.proofs.named_in.Given as goal

abbrev pub invariant-loop-clause : goal.invariant-loop-clause
invariant-loop-clause l = (l.found < 256) × ((p : ℕ) → (bit l.found p || named (drop l.clause-index l.clauses) p) ≡ named l.clauses p)
