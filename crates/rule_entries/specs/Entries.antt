-- A rule given by its numbers and two lists.
use Rattle.std.specs.Prelude.{List, ℕ}
use Rattle.theory.specs.Rule.{Rule}
use Rattle.rule_entries.specs.declared.Head.{Head}

-- 01: "a rule's numbers, counts and clauses"
abbrev pub rule_of : Head → List ℕ → List ℕ → Rule
rule_of h counts clauses = record { n = h.n; s = h.s; initial = h.initial; accepting = h.accepting; counts = counts; clauses = clauses }
