-- What the writer answers, and what its slice then holds.
use Rattle.std.specs.Prelude.{ℕ, zero, suc, ◌*◌, ◌<◌, List, [], ◌∷◌, ◌++◌, not, length, drop, ltb, eqb, Result, Ok}
use Rattle.std.specs.Result.{result_and}
use Rattle.refusals.specs.declared.Refusal.{Refusal}
use Rattle.refusals.specs.Rows.{Check, first_refusal, first_row, check}
use Rattle.refusals.specs.declared.Refusal.TheVariants.{Cut, Slice}
use Rattle.rule_entries.specs.declared.Head.{Head}
use Rattle.rule_entries.specs.Entries.{rule_of}
use Rattle.file_spec.specs.File.{body_of}
use Rattle.file_spec.specs.Names.{preface_from}
use Rattle.file_spec.specs.Rows.{given_rows}
use Rattle.file_spec.specs.RuleRows.{number_rows, list_rows, formed_rows}

-- the numbers that are given
abbrev pub head_from : ℕ → ℕ → ℕ → ℕ → Head
head_from n s initial accepting = record { n = n; s = s; initial = initial; accepting = accepting }

-- 01: the writer "tries rows 3 to 11 on them (7 if the counts are not exactly n × s)", "c being the number of clauses given"; 02, row 20: "the writer tries it too"
unfoldable pub rule_rows : Head → List ℕ → List ℕ → List Check
rule_rows h counts clauses =
    number_rows h
    ++ (check (not (eqb (length counts) (h.n * h.s))) Cut
    ∷ (list_rows h.n counts clauses
    ++ formed_rows (rule_of h counts clauses)))

-- the rows of the rule's group: those of the rule, then those of the names
unfoldable pub given_rule_rows : Head → List ℕ → List ℕ → List ℕ → List Check
given_rule_rows h counts clauses names = rule_rows h counts clauses ++ given_rows h.s names

-- the file of a rule and names that are given. 01: it "writes no preface"; 02: "The writer writes the names, with 4E 4D, as its whole preface"
abbrev pub file_of : Head → List ℕ → List ℕ → List ℕ → List ℕ
file_of h counts clauses names = preface_from names ++ body_of (rule_of h counts clauses)

-- row 16, "result or scratch slice too short": the slice has room bytes
unfoldable pub slice_rows : ℕ → List ℕ → List Check
slice_rows room file = check (ltb room (length file)) Slice ∷ []

-- all of them, in order
abbrev pub write_rows : Head → List ℕ → List ℕ → List ℕ → ℕ → List Check
write_rows h counts clauses names room = given_rule_rows h counts clauses names ++ slice_rows room (file_of h counts clauses names)

-- the number of the first row that refuses, or 0
unfoldable pub write_row : Head → List ℕ → List ℕ → List ℕ → ℕ → ℕ
write_row h counts clauses names room = first_row (write_rows h counts clauses names room)

-- by what refuses first: the length of the file where nothing does, else the refusal alone
unfoldable pub written_of : Head → List ℕ → List ℕ → List ℕ → ℕ → Result ℕ Refusal
written_of h counts clauses names room = result_and (first_refusal (write_rows h counts clauses names room)) (Ok (length (file_of h counts clauses names)))

-- by the first row that refuses: where none does, the slice holds the file at its start and is otherwise as it was, else it is as it was.
-- 01: "It fills the start of its slice, answers the length, and touches nothing after it."
unfoldable pub after : ℕ → List ℕ → List ℕ → List ℕ
after zero file old = file ++ drop (length file) old
after (suc k) file old = old

unfoldable pub slice_after : Head → List ℕ → List ℕ → List ℕ → List ℕ → List ℕ
slice_after h counts clauses names old = after (write_row h counts clauses names (length old)) (file_of h counts clauses names) old

-- the numbers of the trailer fit its bytes
pub record InBytes (h : Head) (c : ℕ) : Type 0 where
  pub n : h.n < 256
  pub s : h.s < 256
  pub initial : h.initial < 256
  pub accepting : h.accepting < 256
  pub count : c < 65536
