-- What F's text carries and how it is answered, and flags and transitions that no text carries.
use mathlib.Core.Path.{◌≡◌, refl}
use mathlib.Core.List.{List, [], ◌∷◌}
use mathlib.Core.Logic.{inl, inr}
use Prim.Native.Nat.{ℕ, zero, suc, ◌+◌}
use native.Mathlib.Omega.{arith}
use lib.ListN.{length}
use borrow.Author.Tests.{lt-ltb}
use Rattle.sets.specs.Masks.{bit}
use Rattle.sets.specs.Lists.{any_of, more, Ascending, from}
use Rattle.refusals.specs.Rows.{first_row}
use Rattle.theory.specs.Code.{component_in, classes_in}
use Rattle.theory.specs.Macrostate.{begun, is_accepting_lem}
use Rattle.slice_search.specs.Places.{ascends, ascends_from}
use Rattle.table_lent.specs.Lent.{in_words, is_faulty_lem, table_rows_lem, table_row_lem}
use Rattle.table_rows.specs.Passed.{Passed}
use Rattle.table_rows.proofs.Passed.{passed}
use Rattle.hoa_spec.specs.Text.{flag_of_lem, flags_of, automaton_text, text_of}
use Rattle.std.specs.Prelude.{Result, Ok, Err}
use Rattle.refusals.specs.declared.Refusal.{Refusal}
use Rattle.refusals.specs.declared.Refusal.TheVariants.{NoTable as Nineteen, Slice}
use Rattle.hoa_spec.specs.declared.TableSizes.{TableSizes}
use Rattle.hoa_spec.specs.Reading.{Carries, NoTable, ReadBack, no_table, short, table}
use Rattle.hoa_spec.specs.Shape.{flags_from, Marked, Ranges, Shaped}

-- ---- F

abbrev codes_f : List ℕ
codes_f = 0 ∷ 257 ∷ 17592186044673 ∷ []

abbrev moves_f : List ℕ
moves_f = 0 ∷ 16777218 ∷ 16842752 ∷ 16842754 ∷ 33554434 ∷ 33619968 ∷ 33619969 ∷ []

-- its text, line by line: text-F in hoa_spec/proofs/Cases
abbrev text_f : List ℕ
text_f = text_of 2 0 codes_f moves_f

passed-F : Passed 2 codes_f moves_f
unfolding table_row_lem table_rows_lem first_row in_words is_faulty_lem ascends ascends_from any_of
passed-F = passed 2 (in_words codes_f) (in_words moves_f) refl

-- accepting; initial and accepting; neither
pub carried-F : Carries text_f (2 ∷ 3 ∷ 0 ∷ []) moves_f
unfolding flag_of_lem flags_of begun is_accepting_lem component_in classes_in bit
carried-F = record {
  s = 2;
  some_letter = omega arith;
  few_letters = omega arith;
  initial = 0;
  initial_state = omega arith;
  codes = codes_f;
  passes = passed-F;
  flags_are = refl;
  text_is = refl;
}

-- read into slices that are one longer: both numbers, flags and transitions, and the last element as it was
pub read-F : ReadBack text_f (9 ∷ 9 ∷ 9 ∷ 9 ∷ []) (9 ∷ 9 ∷ 9 ∷ 9 ∷ 9 ∷ 9 ∷ 9 ∷ 9 ∷ []) (Ok record { macrostates = 3; transitions = 7 })
    (2 ∷ 3 ∷ 0 ∷ 9 ∷ [])
    (0 ∷ 16777218 ∷ 16842752 ∷ 16842754 ∷ 33554434 ∷ 33619968 ∷ 33619969 ∷ 9 ∷ [])
read-F = table carried-F (omega arith) (omega arith)

-- into slices that are just as long
pub just-F : ReadBack text_f (9 ∷ 9 ∷ 9 ∷ []) (9 ∷ 9 ∷ 9 ∷ 9 ∷ 9 ∷ 9 ∷ 9 ∷ []) (Ok record { macrostates = 3; transitions = 7 }) (2 ∷ 3 ∷ 0 ∷ []) moves_f
just-F = table carried-F (omega arith) (omega arith)

-- into slices of which one is too short: 16, and both are as they were
pub short-F : ReadBack text_f (9 ∷ 9 ∷ []) (9 ∷ 9 ∷ 9 ∷ 9 ∷ 9 ∷ 9 ∷ 9 ∷ []) (Err Slice) (9 ∷ 9 ∷ []) (9 ∷ 9 ∷ 9 ∷ 9 ∷ 9 ∷ 9 ∷ 9 ∷ [])
short-F = short carried-F (inl (omega arith))

pub shorter-F : ReadBack text_f (9 ∷ 9 ∷ 9 ∷ []) (9 ∷ 9 ∷ 9 ∷ 9 ∷ 9 ∷ 9 ∷ []) (Err Slice) (9 ∷ 9 ∷ 9 ∷ []) (9 ∷ 9 ∷ 9 ∷ 9 ∷ 9 ∷ 9 ∷ [])
shorter-F = short carried-F (inr (omega arith))

-- ---- a text of one letter, `H`, is no table's: 19, even with no room at all

no-H : NoTable (72 ∷ [])
unfolding text_of automaton_text
no-H fs ts C = ended C.text_is
  where
    ended : {rest : List ℕ} → 72 ∷ [] ≡ 72 ∷ 79 ∷ rest → ⊥
    ended e = let z : ◌≡◌ {A = ℕ} 0 1 = cc in omega arith

pub refused-H : ReadBack (72 ∷ []) [] [] (Err Nineteen) [] []
refused-H = no_table no-H

-- ---- 19 is answered exactly if no table has the text, whatever room there is

pub refused-19 : {text flags transitions flags' transitions' : List ℕ} {a : Result TableSizes Refusal} → ReadBack text flags transitions a flags' transitions' → a ≡ Err Nineteen → NoTable text
refused-19 (no_table n) e = n
refused-19 (short C l) e = let z : ◌≡◌ {A = ℕ} 16 19 = cc in absurd (omega arith)
refused-19 (table C h k) e = let z : ◌≡◌ {A = ℕ} 0 1 = cc in absurd (omega arith)

pub only-19 : {text flags transitions flags' transitions' : List ℕ} {a : Result TableSizes Refusal} → ReadBack text flags transitions a flags' transitions' → NoTable text → a ≡ Err Nineteen
only-19 (no_table n) m = refl
only-19 (short {fs = fs} {ts = ts} C l) m = absurd (m fs ts C)
only-19 (table {fs = fs} {ts = ts} C h k) m = absurd (m fs ts C)

-- ---- flags and transitions

-- the first two of three numbers are accepting, and the second is initial
pub flags-of-three : flags_from 2 0 (0 ∷ 1 ∷ 0 ∷ []) ≡ 2 ∷ 3 ∷ 0 ∷ []
unfolding flags_from
flags-of-three = refl

-- no 65,537 macrostates
pub too_many : {b : ℕ} {fs ts : List ℕ} → Shaped b fs ts → length fs ≡ 65537 → ⊥
too_many S e = omega (arith, S.few)

-- no fifth proposition
pub no-fifth : {fs ts : List ℕ} → Shaped 5 fs ts → ⊥
no-fifth S = omega (arith, S.propositions)

-- no transition twice
pub twice : {b : ℕ} {fs : List ℕ} {t : ℕ} → Shaped b fs (t ∷ t ∷ []) → ⊥
twice S = again S.ascend
  where
    again : {t : ℕ} → Ascending (t ∷ t ∷ []) → ⊥
    again (from (more l A)) = omega arith

-- no letter 2 with one proposition, and no target that is no number
pub no-letter : {n : ℕ} → Ranges 1 n 131072 → ⊥
no-letter R = omega (arith, R.letter)

pub no_target : {b : ℕ} → Ranges b 3 3 → ⊥
no_target R = omega (arith, R.target)

-- no accepting number after another one
pub no-late : Marked (0 ∷ 2 ∷ []) → ⊥
unfolding flags_from
no-late M = cased M.accepting M.starts M.flags_are
  where
    cased : (a : ℕ) (starts : List ℕ) → 0 ∷ 2 ∷ [] ≡ flags_from a 0 starts → ⊥
    cased a [] e = let z : ◌≡◌ {A = ℕ} 0 1 = cc in omega arith
    cased zero (s ∷ []) e = let z : ◌≡◌ {A = ℕ} 0 1 = cc in omega arith
    cased zero (s ∷ t ∷ rest) e = let z : ◌≡◌ {A = ℕ} 2 0 = cc in omega arith
    cased (suc a) (s ∷ starts) e = let t = lt-ltb 0 (suc a) (omega arith) in let z : 0 ≡ 2 + s = cc in omega arith
