-- The report on files, evaluated.
use mathlib.Core.Path.{◌≡◌, refl}
use mathlib.Core.List.{List, [], ◌∷◌}
use Prim.Native.Nat.{ℕ}
use Rattle.sets.specs.Tests.{every, some_below}
use Rattle.sets.specs.Masks.{bit, mask, inside}
use Rattle.refusals.specs.Rows.{first_row}
use Rattle.theory.specs.Rule.{entry}
use Rattle.theory.specs.Components.{named, leads, within, reaches, together, mixed}
use Rattle.file_spec.specs.File.{tagged, clauses_of_lem, counts_of_lem}
use Rattle.file_spec.specs.Rows.{trailer_rows, layout_rows}
use Rattle.file_spec.specs.RuleRows.{number_rows, list_rows, nested, some_nested, clause_rows, component_rows}
use Rattle.std.specs.Prelude.{Some, None, Ok, Err}
use Rattle.refusals.specs.Rows.{refusal_at}
use Rattle.refusals.specs.declared.Refusal.TheVariants.{Clause, Slice, ClauseInside}
use Rattle.loop_spec.proofs.Cases.{computed as searched}
use Rattle.loop_spec.specs.Reported.{slice_rows, formed_rows, report_row, answer, report_of, after, slice_after}

-- what an evaluation unfolds
unfoldable computed : ℕ
unfolding report_of slice_after answer refusal_at after report_row formed_rows slice_rows first_row layout_rows trailer_rows number_rows list_rows clause_rows component_rows mixed together reaches within leads named entry
    some_below bit mask some_nested nested inside every tagged clauses_of_lem counts_of_lem
    searched
computed = 0

-- 01's example of row 11: both states lead to each other, the first is accepting
abbrev pair : List ℕ
pair = 2 ∷ 1 ∷ 1 ∷ 1 ∷ 2 ∷ 1 ∷ 0 ∷ 1 ∷ 2 ∷ 0 ∷ 0x41 ∷ 0x57 ∷ []

-- row 11 is not tried
pair-served : report_of pair 2 ≡ Ok (Some 2)
unfolding computed
pair-served = refl

-- the loop at the start of the slice, the rest as lent
pair-written : slice_after pair (9 ∷ 9 ∷ 9 ∷ []) ≡ 0 ∷ 1 ∷ 9 ∷ []
unfolding computed
pair-written = refl

pair-short : report_of pair 1 ≡ Err Slice
unfolding computed
pair-short = refl

-- rule F has no mixed component: no byte is wanted
no_loop : report_of (1 ∷ 0 ∷ 1 ∷ 1 ∷ 1 ∷ 2 ∷ 0 ∷ 0 ∷ 2 ∷ 0 ∷ 0x41 ∷ 0x57 ∷ []) 0 ≡ Ok None
unfolding computed
no_loop = refl

-- the same pair, the first state with a clause that contains another, and a slice too short: row 20, before row 16
nested-clause : report_of (2 ∷ 3 ∷ 1 ∷ 2 ∷ 1 ∷ 2 ∷ 1 ∷ 0 ∷ 1 ∷ 3 ∷ 0 ∷ 0x41 ∷ 0x57 ∷ []) 0 ≡ Err ClauseInside
unfolding computed
nested-clause = refl

-- 01's example of row 10
no-state : report_of (2 ∷ 1 ∷ 1 ∷ 1 ∷ 0 ∷ 0 ∷ 1 ∷ 0 ∷ 0x41 ∷ 0x57 ∷ []) 8 ≡ Err Clause
unfolding computed
no-state = refl
