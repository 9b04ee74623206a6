-- The trimmed tables of rules that 01 uses in checking, and of a rule all of whose macrostates lead on for ever and that accepts nothing.
use mathlib.Core.Path.{◌≡◌, refl, ◌∙◌, ap, ap₂}
use mathlib.Core.List.{List, [], ◌∷◌}
use Prim.Native.Nat.{ℕ}
use lib.ListN.{length}
use Rattle.sets.specs.Digits.{num}
use Rattle.sets.specs.Lists.{keep, among, any_of, sum, tabulate, flat, insert_ascending, sorted}
use Rattle.sets.specs.Masks.{bit, mask, inside}
use Rattle.sets.specs.Tests.{every, some_below, count, first, largest}
use Rattle.theory.specs.Automaton.{automaton}
use Rattle.theory.specs.Code.{fields, pack, component_in, classes_in, set_in, rank_in, well_coded}
use Rattle.theory.specs.Components.{named, leads, within, reaches, together, smallest, is_smallest, component, components}
use Rattle.theory.specs.Core.{is_open, mix, rejecting_settled, accepting_settled, settled, settled_up_to, open_of_lem, next_component_lem}
use Rattle.theory.specs.CoreComputed.{level_of, taken, rank_of, is_core_lem}
use Rattle.theory.specs.Examples.{F, D}
use Rattle.theory.specs.Macrostate.{begun, is_accepting_lem}
use Rattle.theory.specs.MacrostateComputed.{before, onward, goes}
use Rattle.theory.specs.Rule.{Rule, entry, satisfies}
use Rattle.theory.specs.TableComputed.{reached_in, reached, digitals, candidates, cores, codes_from, transitions_of, macrostates_from, transitions_from, macrostates, transitions}
use Rattle.theory.proofs.AboutExamples as examples
use Rattle.graph_walks.specs.Marks.{is_due, marked, is_new, goes_out_lem}
use Rattle.graph_walks.specs.Marks as marks
use Rattle.trim_spec.specs.Trimmed.{flag_of_lem, flags, swept, is_new_in, swept_out, settled_all, solved_in, live_marks, picked, is_live, new_number, trimmed_codes, trimmed_transitions, is_left_lem}
use Rattle.trim_spec.specs.Trimmed.{renumber, renumbered}

-- what an evaluation of the lists of a rule unfolds
unfoldable computed : ℕ
unfolding is_accepting_lem macrostates_from transitions_from transitions_of codes_from cores candidates digitals tabulate flat keep among any_of insert_ascending sorted reached_in reached well_coded pack fields
    mask num goes before onward begun automaton set_in rank_in component_in classes_in every satisfies inside bit rank_of level_of settled_up_to settled rejecting_settled accepting_settled mix is_open taken
    some_below count first largest open_of_lem next_component_lem is_core_lem component components is_smallest smallest together reaches within leads named entry sum
computed = 0

-- and of the marks of a table
unfoldable solving : ℕ
unfolding flag_of_lem flags swept is_new_in swept_out settled_all solved_in live_marks picked is_accepting_lem classes_in is_due marked is_new goes_out_lem marks.settled any_of sum
solving = 0

abbrev kept_of : List ℕ → List ℕ → List ℕ
kept_of codes ts = picked (live_marks codes ts) codes

-- the codes of a rule with these lists
codes-of : (r : Rule) (codes ts kept : List ℕ) → macrostates r ≡ codes → transitions r ≡ ts → kept_of codes ts ≡ kept → trimmed_codes r ≡ kept
unfolding trimmed_codes
codes-of r codes ts kept e f k = ap₂ kept_of e f ∙ k

transitions-of : (r : Rule) (kept moves : List ℕ) → trimmed_codes r ≡ kept → transitions_of (automaton r) r.s kept ≡ moves → trimmed_transitions r ≡ moves
unfolding trimmed_transitions
transitions-of r kept moves e f = ap (transitions_of (automaton r) r.s) e ∙ f

-- ---- D

-- the table of D, as 01 lists it
abbrev codes_d : List ℕ
codes_d = 0 ∷ 257 ∷ 4098 ∷ 4355 ∷ 4611 ∷ 8451 ∷ 17592186044673 ∷ 17592186048514 ∷ 17592186048771 ∷ 17592186049027 ∷ 17592186052867 ∷ 35184372093443 ∷ 35184372097283 ∷ []

abbrev moves_d : List ℕ
moves_d = 65536 ∷ 65543 ∷ 33554432 ∷ 33554438 ∷ 33619974 ∷ 33619976 ∷ 33619979 ∷ 33619980 ∷ 67108871 ∷ 67108872 ∷ 67108875 ∷ 67108876 ∷ 117440512 ∷ 117440513 ∷ 117506054 ∷ 117506056 ∷ 117506058
    ∷ 117506059 ∷ 150994946 ∷ 150994947 ∷ 150994948 ∷ 150994949 ∷ 184549383 ∷ 184549384 ∷ 184549385 ∷ 184549388 ∷ []

kept-D : kept_of codes_d moves_d ≡ (0 ∷ 4098 ∷ 4611 ∷ 17592186048514 ∷ 17592186049027 ∷ 35184372093443 ∷ [])
unfolding solving
kept-D = refl

moves-D : transitions_of (automaton D) 2 (0 ∷ 4098 ∷ 4611 ∷ 17592186048514 ∷ 17592186049027 ∷ 35184372093443 ∷ [])
    ≡ (65536 ∷ 65539 ∷ 16777216 ∷ 16842757 ∷ 33554435 ∷ 33554437 ∷ 50331648 ∷ 50397189 ∷ 67108865 ∷ 67108866 ∷ 83886083 ∷ 83886084 ∷ [])
unfolding computed
moves-D = refl

-- the transitions of the table between the numbers that are left, by their new numbers, are the same
renumbered-D : renumbered (live_marks codes_d moves_d) moves_d
    ≡ (65536 ∷ 65539 ∷ 16777216 ∷ 16842757 ∷ 33554435 ∷ 33554437 ∷ 50331648 ∷ 50397189 ∷ 67108865 ∷ 67108866 ∷ 83886083 ∷ 83886084 ∷ [])
unfolding solving renumbered is_left_lem renumber is_live new_number count
renumbered-D = refl

pub codes-D : trimmed_codes D ≡ (0 ∷ 4098 ∷ 4611 ∷ 17592186048514 ∷ 17592186049027 ∷ 35184372093443 ∷ [])
codes-D = codes-of D _ _ _ examples.macrostates-D examples.transitions-D kept-D

pub transitions-D : trimmed_transitions D ≡ (65536 ∷ 65539 ∷ 16777216 ∷ 16842757 ∷ 33554435 ∷ 33554437 ∷ 50331648 ∷ 50397189 ∷ 67108865 ∷ 67108866 ∷ 83886083 ∷ 83886084 ∷ [])
transitions-D = transitions-of D _ _ codes-D moves-D

-- 02: "Rule D shrinks from 13 and 26 to 6 and 12."
pub d-shrinks : (length (macrostates D) ≡ 13) × (length (transitions D) ≡ 26) × (length (trimmed_codes D) ≡ 6) × (length (trimmed_transitions D) ≡ 12)
d-shrinks = (ap length examples.macrostates-D, ap length examples.transitions-D, ap length codes-D, ap length transitions-D)

-- ---- F, all of whose macrostates matter

kept-F : kept_of (0 ∷ 257 ∷ 17592186044673 ∷ []) (0 ∷ 16777218 ∷ 16842752 ∷ 16842754 ∷ 33554434 ∷ 33619968 ∷ 33619969 ∷ []) ≡ (0 ∷ 257 ∷ 17592186044673 ∷ [])
unfolding solving
kept-F = refl

pub codes-F : trimmed_codes F ≡ (0 ∷ 257 ∷ 17592186044673 ∷ [])
codes-F = codes-of F _ _ _ examples.macrostates-F examples.transitions-F kept-F

-- ---- one rejecting state with a clause of itself: k stays 1 for ever, and no word is accepted

abbrev stays : Rule
stays = record { n = 1; s = 1; initial = 0; accepting = 0; counts = 1 ∷ []; clauses = 1 ∷ [] }

macrostates-stays : macrostates stays ≡ (257 ∷ 17592186044673 ∷ [])
unfolding computed
macrostates-stays = refl

-- each macrostate leads on
transitions-stays : transitions stays ≡ (1 ∷ 16777217 ∷ [])
unfolding computed
transitions-stays = refl

kept-stays : kept_of (257 ∷ 17592186044673 ∷ []) (1 ∷ 16777217 ∷ []) ≡ []
unfolding solving
kept-stays = refl

pub codes-stays : trimmed_codes stays ≡ []
codes-stays = codes-of stays _ _ _ macrostates-stays transitions-stays kept-stays
