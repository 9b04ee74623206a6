-- What the definitions give for examples: rule F, "some time letter 1", and rule E, "letter 0 for ever", with their trimmed tables.
use mathlib.Core.Path.{◌≡◌, refl}
use mathlib.Core.List.{List, [], ◌∷◌, ◌++◌}
use Prim.Native.Nat.{ℕ}
use lib.ListN.{drop}
use Rattle.sets.specs.Lists.{any_of, tabulate}
use Rattle.sets.specs.Masks.{bit}
use Rattle.sets.specs.Tests.{count}
use Rattle.std.specs.Prelude.{Ok, Err}
use Rattle.refusals.specs.declared.Refusal.TheVariants.{Slice}
use Rattle.refusals.specs.Rows.{first_row}
use Rattle.theory.specs.Code.{component_in, classes_in}
use Rattle.theory.specs.Macrostate as macrostate
use Rattle.slice_search.specs.Places.{ascends}
use Rattle.table_lent.specs.Lent.{in_words, is_faulty_lem, table_rows_lem}
use Rattle.live_spec.specs.Afresh.{enters, stepped, stepped_over, initial_set, afresh, members_of}
use Rattle.live_spec.specs.Called.{left_by_lem}
use Rattle.follow_spec.specs.Set.{flags, reached, emptied_after}
use Rattle.follow_spec.specs.Rows.{letter_rows, set_rows, follow_call_rows, follow_call_row}
use Rattle.follow_spec.specs.Followed.{answer_by}

abbrev codes_f : List ℕ
codes_f = 0 ∷ 257 ∷ 17592186044673 ∷ []

abbrev moves_f : List ℕ
moves_f = 0 ∷ 16777218 ∷ 16842752 ∷ 16842754 ∷ 33554434 ∷ 33619968 ∷ 33619969 ∷ []

unfoldable computed : ℕ
unfolding flags reached emptied_after afresh initial_set stepped_over stepped enters any_of tabulate macrostate.begun component_in classes_in bit members_of count
computed = 0

-- ---- the set

-- "a byte that is not 0 being in", and bytes 0 or 1 are left, also over no letter; bytes past the macrostates are not of the set
pub flags_of : flags 3 (0 ∷ 7 ∷ 255 ∷ 9 ∷ []) ≡ (0 ∷ 1 ∷ 1 ∷ [])
unfolding computed
flags_of = refl

pub no-letter : reached 3 moves_f [] (0 ∷ 7 ∷ 0 ∷ []) ≡ (0 ∷ 1 ∷ 0 ∷ [])
unfolding computed
no-letter = refl

-- the second leads over letter 1 to the first and the third, over letter 0 to the third alone
pub two-letters : (reached 3 moves_f (1 ∷ []) (0 ∷ 7 ∷ 0 ∷ []) ≡ (1 ∷ 0 ∷ 1 ∷ [])) × (reached 3 moves_f (0 ∷ 1 ∷ []) (0 ∷ 1 ∷ 0 ∷ []) ≡ (1 ∷ 1 ∷ 0 ∷ []))
unfolding computed
two-letters = (refl, refl)

-- from the initial macrostates it is the set worked out afresh
pub afresh-F : reached 3 moves_f (0 ∷ 1 ∷ 0 ∷ []) (initial_set 0 codes_f) ≡ afresh 0 codes_f moves_f (0 ∷ 1 ∷ 0 ∷ [])
unfolding computed
afresh-F = refl

-- ---- when none was left for the first time

-- E has one macrostate, from 0 over letter 0 to 0: none is left after the first letter 1
pub emptied-E : (emptied_after 1 (0 ∷ []) (0 ∷ 0 ∷ 1 ∷ 0 ∷ 1 ∷ []) (1 ∷ []) ≡ 3) × (reached 1 (0 ∷ []) (0 ∷ 0 ∷ 1 ∷ 0 ∷ []) (1 ∷ []) ≡ (0 ∷ []))
unfolding computed
emptied-E = (refl, refl)

-- "0, if none was in the set to begin with"
pub emptied-first : (emptied_after 1 (0 ∷ []) (0 ∷ 0 ∷ []) (0 ∷ []) ≡ 0) × (emptied_after 1 (0 ∷ []) (1 ∷ 0 ∷ []) (1 ∷ []) ≡ 1)
unfolding computed
emptied-first = (refl, refl)

-- "the number of all letters where some are left"
pub emptied-not : (emptied_after 3 moves_f (0 ∷ 1 ∷ 0 ∷ []) (0 ∷ 1 ∷ 0 ∷ []) ≡ 3) × (emptied_after 3 moves_f [] (0 ∷ 1 ∷ 0 ∷ []) ≡ 0)
unfolding computed
emptied-not = (refl, refl)

-- ---- the answer, and what is left of the slice

pub answers : (answer_by (Ok tt) 3 (1 ∷ 0 ∷ 1 ∷ []) 5 ≡ Ok (record { left = 2; letters = 5 })) × (answer_by (Err Slice) 3 (1 ∷ 0 ∷ 1 ∷ []) 5 ≡ Err Slice)
unfolding computed answer_by
answers = (refl, refl)

pub slices : (left_by_lem 0 ((1 ∷ 0 ∷ 1 ∷ []) ++ drop 3 (7 ∷ 7 ∷ 7 ∷ 7 ∷ [])) (7 ∷ 7 ∷ 7 ∷ 7 ∷ []) ≡ (1 ∷ 0 ∷ 1 ∷ 7 ∷ []))
    × (left_by_lem 15 ((1 ∷ 0 ∷ 1 ∷ []) ++ drop 3 (7 ∷ 7 ∷ 7 ∷ 7 ∷ [])) (7 ∷ 7 ∷ 7 ∷ 7 ∷ []) ≡ (7 ∷ 7 ∷ 7 ∷ 7 ∷ []))
unfolding left_by_lem
slices = (refl, refl)

-- ---- rows

unfoldable tried : ℕ
unfolding computed follow_call_row follow_call_rows letter_rows table_rows_lem is_faulty_lem ascends set_rows first_row in_words
tried = 0

abbrev row_f : ℕ → List ℕ → ℕ → ℕ
row_f s letters setLen = follow_call_row s letters (in_words codes_f) (in_words moves_f) setLen

-- 14 for a letter not below s, wherever it stands; none for no letters
pub letters-F : (row_f 2 (0 ∷ 1 ∷ []) 3 ≡ 0) × (row_f 2 (0 ∷ 1 ∷ 2 ∷ []) 3 ≡ 14) × (row_f 2 (2 ∷ 0 ∷ []) 3 ≡ 14) × (row_f 2 [] 3 ≡ 0)
unfolding tried
letters-F = (refl, refl, refl, refl)

-- 16 for a set of two bytes, not of three or four
pub set-F : (row_f 2 (0 ∷ []) 2 ≡ 16) × (row_f 2 (0 ∷ []) 3 ≡ 0) × (row_f 2 (0 ∷ []) 4 ≡ 0)
unfolding tried
set-F = (refl, refl, refl)

-- 14 before 15, 15 before 16: a transition over letter 1 where s is 1
pub order-F : (row_f 1 (1 ∷ []) 2 ≡ 14) × (row_f 1 (0 ∷ []) 2 ≡ 15) × (row_f 1 [] 2 ≡ 15)
unfolding tried
order-F = (refl, refl, refl)
