-- The starred cases of 01 as theorems: the whole table passes the checks, so each of its cases meets the claim.
use mathlib.Core.Path.{◌≡◌, refl}
use mathlib.Core.Logic.{⊎_elim}
use mathlib.Core.Bool.{Bool, true, ◌&&◌}
use mathlib.Core.List.Memᴰ
use mathlib.Core.List.{List, [], ◌∷◌, Memᴰ}
use Prim.Native.Nat.{ℕ, zero, suc, ◌-◌, ◌<◌}
use native.Mathlib.Omega.{arith}
use lib.ListN.{length, get_or}
use Rattle.sets.specs.Digits.{num}
use Rattle.sets.specs.Lists.{keep, among, any_of, sum, tabulate, flat, insert_ascending, sorted}
use Rattle.sets.specs.Masks.{bit, mask, inside}
use Rattle.sets.specs.Tests.{every, some_below, count, first, largest}
use Rattle.sets.proofs.Bools.{and_l, and_r}
use Rattle.theory.specs.Automaton.{automaton}
use Rattle.theory.specs.Code.{fields, pack, component_in, classes_in, set_in, rank_in, well_coded}
use Rattle.theory.specs.Components.{named, leads, within, reaches, together, smallest, is_smallest, component, components}
use Rattle.theory.specs.Core.{is_open, mix, rejecting_settled, accepting_settled, settled, settled_up_to, open_of_lem, next_component_lem}
use Rattle.theory.specs.CoreComputed.{level_of, taken, rank_of, is_core_lem}
use Rattle.theory.specs.Macrostate.{begun, is_accepting_lem}
use Rattle.theory.specs.MacrostateComputed.{before, onward, goes}
use Rattle.theory.specs.Rule.{entry, satisfies}
use Rattle.theory.specs.TableComputed.{reached_in, reached, digitals, candidates, cores, codes_from, transitions_of, macrostates_from, transitions_from}
use Rattle.theory.specs.Truth.{height_of, layer, rounds_at, solved_below, truth_masks}
use Rattle.theory.specs.Word.{next_place_lem, letter_at_lem, place}
use Rattle.file_spec.proofs.Examples.{rows_computed}
use Rattle.word_rows.specs.Words.{length_rows, letter_rows, word_rows_lem, word_row_lem}
use Rattle.slice_search.specs.Same.{same_lists}
use Rattle.cases_starred.specs.Files.{F, D, E, I, Z}
use Rattle.cases_starred.specs.Claim.{codes_of, Claim}
use Rattle.cases_starred.specs.Case.{Case}
use Rattle.cases_starred.specs.Starred.{case1, case2, case3, case4, case5, case6, case7, case8, case9, starred}
use Rattle.cases_starred.proofs.Lasso.{conj, loops}
use Rattle.cases_starred.proofs.Checks.{all_marks, start_passes, passes, case_passes, claim}

-- what the evaluation unfolds: the rows of a file and of a word, the masks, the lists of the build, the checks, the table
unfoldable rows : ℕ
unfolding rows_computed word_row_lem word_rows_lem length_rows letter_rows
rows = 0

unfoldable computed : ℕ
unfolding truth_masks solved_below rounds_at layer height_of next_place_lem letter_at_lem place is_accepting_lem macrostates_from transitions_from transitions_of codes_from cores candidates digitals tabulate flat keep
    among any_of insert_ascending sorted reached_in reached well_coded pack fields mask num goes before onward begun automaton set_in rank_in component_in classes_in every satisfies inside bit rank_of level_of
    settled_up_to settled rejecting_settled accepting_settled mix is_open taken some_below count first largest open_of_lem next_component_lem is_core_lem component components is_smallest smallest together reaches within
    leads named entry sum
computed = 0

unfoldable checks : ℕ
unfolding F D E I Z case1 case2 case3 case4 case5 case6 case7 case8 case9 starred codes_of conj loops all_marks start_passes passes case_passes same_lists
checks = 0

unfoldable all_pass : List Case → Bool
all_pass [] = true
all_pass (c ∷ cs) = case_passes c && all_pass cs

starred-passes : all_pass starred ≡ true
starred-passes = unfold all_pass rows computed checks in refl

claims : (cs : List Case) → all_pass cs ≡ true → (c : Case) → Memᴰ c cs → Claim c
unfolding all_pass
claims [] e c m = absurd (Memᴰ.not-nil m)
claims (d ∷ cs) e c m = ⊎_elim (λ h. rw h (claim d (and_l _ (all_pass cs) e))) (λ h. claims cs (and_r (case_passes d) _ e) c h) (Memᴰ.cases_cons m)

-- every starred case meets the claim
pub starred-claims : (c : Case) → Memᴰ c starred → Claim c
starred-claims = claims starred starred-passes

-- ---- each case by its number, from 1

nth : (cs : List Case) (i : ℕ) (d : Case) → i < length cs → Memᴰ (get_or cs i d) cs
nth [] i d l = absurd (omega arith)
nth (c ∷ cs) zero d l = Memᴰ.head refl
nth (c ∷ cs) (suc i) d l = Memᴰ.tail (nth cs i d (omega arith))

claim-at : (i : ℕ) → i - 1 < 9 → Claim (get_or starred (i - 1) case1)
claim-at i l = unfold starred in starred-claims (get_or starred (i - 1) case1) (nth starred (i - 1) case1 l)

pub case-1 : Claim case1
case-1 = unfold starred in claim-at 1 (omega arith)

pub case-2 : Claim case2
case-2 = unfold starred in claim-at 2 (omega arith)

pub case-3 : Claim case3
case-3 = unfold starred in claim-at 3 (omega arith)

pub case-4 : Claim case4
case-4 = unfold starred in claim-at 4 (omega arith)

pub case-5 : Claim case5
case-5 = unfold starred in claim-at 5 (omega arith)

pub case-6 : Claim case6
case-6 = unfold starred in claim-at 6 (omega arith)

pub case-7 : Claim case7
case-7 = unfold starred in claim-at 7 (omega arith)

pub case-8 : Claim case8
case-8 = unfold starred in claim-at 8 (omega arith)

pub case-9 : Claim case9
case-9 = unfold starred in claim-at 9 (omega arith)
