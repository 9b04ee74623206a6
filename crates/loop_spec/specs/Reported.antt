-- The report of a mixed loop on a rule file: what it refuses, answers and writes.
use Rattle.std.specs.Prelude.{List, [], ◌∷◌, ◌++◌, ℕ, zero, suc, ltb, length, drop, Option, Some, None, Result, Ok, Err}
use Rattle.refusals.specs.declared.Refusal.{Refusal}
use Rattle.refusals.specs.Rows.{Check, refusal_at, first_row, check}
use Rattle.refusals.specs.declared.Refusal.TheVariants.{Slice}
use Rattle.theory.specs.Rule.{Rule}
use Rattle.file_spec.specs.File.{rule_in}
use Rattle.file_spec.specs.Rows.{layout_rows}
use Rattle.file_spec.specs.RuleRows.{clause_rows}
use Rattle.loop_spec.specs.Search.{loop_of}

-- row 16, "result or scratch slice too short", of a slice of room bytes: a byte a state
unfoldable pub slice_rows : List ℕ → ℕ → List Check
slice_rows states room = check (ltb room (length states)) Slice ∷ []

-- row 20, then row 16, of a rule that rows 1 to 10 pass
unfoldable pub formed_rows : Rule → ℕ → List Check
formed_rows r room = clause_rows r ++ slice_rows (loop_of r) room

-- the first row that refuses, or 0. 02: "The report runs checks 1 to 10 and 20, not 11; 21 to 23 do not apply to it."
unfoldable pub report_row : List ℕ → ℕ → ℕ
report_row f room = first_row (layout_rows f ++ formed_rows (rule_in f) room)

-- by the row, or 0: the number of states, or that there is none; else the refusal with this number alone
unfoldable pub answer : ℕ → List ℕ → Result (Option ℕ) Refusal
answer zero [] = Ok None
answer zero (q ∷ ps) = Ok (Some (length (q ∷ ps)))
answer (suc k) ps = Err (refusal_at k)

unfoldable pub report_of : List ℕ → ℕ → Result (Option ℕ) Refusal
report_of f room = answer (report_row f room) (loop_of (rule_in f))

-- by the row, or 0. 02: "a call fills lent slices from their start and leaves the rest as lent"; a refusal changes no lent slice
unfoldable pub after : ℕ → List ℕ → List ℕ → List ℕ
after zero states old = states ++ drop (length states) old
after (suc k) states old = old

unfoldable pub slice_after : List ℕ → List ℕ → List ℕ
slice_after f old = after (report_row f (length old)) (loop_of (rule_in f)) old

-- how many states an answer tells
unfoldable pub told : Result (Option ℕ) Refusal → ℕ
told (Ok (Some k)) = k
told (Ok None) = 0
told (Err r) = 0
