-- What the reader answers.
use Rattle.std.specs.Prelude.{ℕ, zero, suc, List, [], length, take, Result, Ok}
use Rattle.std.specs.Result.{result_and}
use Rattle.refusals.specs.declared.Refusal.{Refusal}
use Rattle.refusals.specs.Rows.{first_refusal}
use Rattle.file_spec.specs.declared.Parts.{Parts}
use Rattle.file_spec.specs.declared.Layout.{Layout}
use Rattle.file_spec.specs.File.{head_of, clause_count, clauses_at, names_of}
use Rattle.file_spec.specs.Rows.{file_rows_lem, file_row}

-- the numbers of a file, where its first clause stands, and how many clauses it has
abbrev pub parts_of : List ℕ → Parts
parts_of f = record { head = head_of f; at = clauses_at f; clauses = clause_count f }

-- 02: "new readers carry the names in the rule": with them, how many bytes its names have
abbrev pub layout_of : List ℕ → Layout
layout_of f = record { head = head_of f; at = clauses_at f; clauses = clause_count f; names = length (names_of f) }

-- by what refuses first: the layout where nothing does, else "The answer is the number alone"
unfoldable pub read_of : List ℕ → Result Layout Refusal
read_of f = result_and (first_refusal (file_rows_lem f)) (Ok (layout_of f))

-- by the first row that refuses: the part where none does, else nothing
unfoldable pub unrefused : ℕ → List ℕ → List ℕ
unrefused zero part = part
unrefused (suc k) part = []

-- the preface: the part of the file before its first clause. 01: "From a refused file that part is empty."
unfoldable pub preface_of : List ℕ → List ℕ
preface_of f = unrefused (file_row f) (take (clauses_at f) f)
