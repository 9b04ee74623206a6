-- The rule file: where its parts stand, and the rule that it lays out.
use Rattle.std.specs.Prelude.{ℕ, ◌+◌, ◌-◌, ◌*◌, ◌/◌, ◌%◌, List, [], ◌∷◌, ◌++◌, Bool, ◌&&◌, length, get_or, take, drop, eqb}
use Rattle.theory.specs.Rule.{Rule}
use Rattle.rule_entries.specs.declared.Head.{Head}
use Rattle.rule_entries.specs.Entries.{rule_of}
use Rattle.file_spec.specs.Names.{names_before}

-- 01: "a trailer of 8 bytes", "The trailer points back from the file's end": byte i of it
abbrev pub trailer : List ℕ → ℕ → ℕ
trailer f i = get_or f (length f - 8 + i) 0

-- 01: "the tag 41 57"
abbrev pub tag : List ℕ
tag = 0x41 ∷ 0x57 ∷ []

-- whether the last two bytes are the tag
unfoldable pub tagged : List ℕ → Bool
tagged f = eqb (trailer f 6) (get_or tag 0 0) && eqb (trailer f 7) (get_or tag 1 0)

-- n, s, the initial state and the mask of accepting states: bytes 0 to 3 of the trailer
abbrev pub head_of : List ℕ → Head
head_of f = record { n = trailer f 0; s = trailer f 1; initial = trailer f 2; accepting = trailer f 3 }

-- "c, low byte first": the number of clauses
abbrev pub clause_count : List ℕ → ℕ
clause_count f = trailer f 4 + 256 * trailer f 5

-- n × s: the number of entries
abbrev pub entry_count : List ℕ → ℕ
entry_count f = trailer f 0 * trailer f 1

-- where the first clause stands: "a preface of any bytes, then c clause bytes, then n × s count bytes, then a trailer of 8 bytes"
abbrev pub clauses_at : List ℕ → ℕ
clauses_at f = length f - 8 - (clause_count f + entry_count f)

-- "c clause bytes"
unfoldable pub clauses_of_lem : List ℕ → List ℕ
clauses_of_lem f = take (clause_count f) (drop (clauses_at f) f)

-- "n × s count bytes"
unfoldable pub counts_of_lem : List ℕ → List ℕ
counts_of_lem f = take (entry_count f) (drop (clauses_at f + clause_count f) f)

-- the rule that a file lays out
abbrev pub rule_in : List ℕ → Rule
rule_in f = rule_of (head_of f) (counts_of_lem f) (clauses_of_lem f)

-- the part before the first clause: the preface of an accepted file
abbrev pub part_before_lem : List ℕ → List ℕ
part_before_lem f = take (clauses_at f) f

-- the bytes of the names that stand there
abbrev pub names_of : List ℕ → List ℕ
names_of f = names_before (trailer f 1) (part_before_lem f)

-- 02: "new readers carry the names in the rule": a rule and the bytes of its names, none or 8 for each letter
pub record NamedRule : Type 0 where
  pub rule : Rule
  pub names : List ℕ

-- what a file is read as
abbrev pub named_in : List ℕ → NamedRule
named_in f = record { rule = rule_in f; names = names_of f }

-- the trailer of a rule
unfoldable pub trailer_of : Rule → List ℕ
trailer_of r = r.n ∷ r.s ∷ r.initial ∷ r.accepting ∷ length r.clauses % 256 ∷ length r.clauses / 256 ∷ tag

-- the file of a rule, with no preface
unfoldable pub body_of : Rule → List ℕ
body_of r = r.clauses ++ (r.counts ++ trailer_of r)
