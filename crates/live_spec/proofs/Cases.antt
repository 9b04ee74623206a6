-- What the definitions give for examples: rule F, "some time letter 1", and rule E, "letter 0 for ever", with their trimmed tables.
use mathlib.Core.Path.{◌≡◌, refl, ◌∙◌, ap}
use mathlib.Core.List.{List, [], ◌∷◌, ◌++◌}
use Prim.Native.Nat.{ℕ}
use lib.ListN.{take, drop, replicate}
use Rattle.sets.specs.Digits.{num}
use Rattle.sets.specs.Lists.{keep, among, any_of, sum, tabulate, flat, insert_ascending, sorted}
use Rattle.sets.specs.Masks.{bit, mask, inside}
use Rattle.sets.specs.Tests.{every, some_below, count, first, largest}
use Rattle.refusals.specs.Rows.{first_row}
use Rattle.theory.specs.Automaton.{automaton}
use Rattle.theory.specs.Code.{fields, pack, component_in, classes_in, well_coded}
use Rattle.theory.specs.Code as code
use Rattle.theory.specs.Components.{named, leads, within, reaches, together, smallest, is_smallest, component, components}
use Rattle.theory.specs.Core.{is_open, mix, rejecting_settled, accepting_settled, settled, settled_up_to, open_of_lem, next_component_lem}
use Rattle.theory.specs.CoreComputed.{level_of, taken, rank_of, is_core_lem}
use Rattle.theory.specs.Examples.{F}
use Rattle.theory.specs.Macrostate.{is_accepting_lem}
use Rattle.theory.specs.MacrostateComputed.{before, onward, goes}
use Rattle.theory.specs.Macrostate as macrostate
use Rattle.theory.specs.Rule.{entry, satisfies}
use Rattle.theory.specs.TableComputed.{transitions_of}
use Rattle.trim_spec.specs.Trimmed.{trimmed_codes, trimmed_transitions}
use Rattle.trim_spec.proofs.Cases as trimmed
use Rattle.slice_search.specs.Places.{ascends}
use Rattle.table_lent.specs.Lent.{in_words, is_faulty_lem, table_rows_lem}
use Rattle.live_spec.specs.Afresh.{enters, stepped, stepped_over, initial_set, afresh, members_of}
use Rattle.live_spec.specs.declared.LiveCall.{LiveCall}
use Rattle.live_spec.specs.declared.LiveCall.TheVariants.{Start, Arrive, Withdraw, Mark, Return}
use Rattle.live_spec.specs.History.{History, at_start, later, unset, at, empty, called, log_of, held, mark_of}
use Rattle.live_spec.specs.State.{two_bytes, padded, for_marks, log_bytes, state_of, number_at_lem, letters_in, is_marked_lem, set_bytes}
use Rattle.live_spec.specs.Effects.{put, numbered, with_set, refreshed, started, arrived, withdrawn, marked, returned, shown}
use Rattle.live_spec.specs.Rows.{slice_rows, arrival_rows, log_rows, live_call_rows, live_call_row}

-- ---- the trimmed table of F

abbrev codes_f : List ℕ
codes_f = 0 ∷ 257 ∷ 17592186044673 ∷ []

abbrev moves_f : List ℕ
moves_f = 0 ∷ 16777218 ∷ 16842752 ∷ 16842754 ∷ 33554434 ∷ 33619968 ∷ 33619969 ∷ []

pub codes-F : trimmed_codes F ≡ codes_f
codes-F = trimmed.codes-F

moves-F : transitions_of (automaton F) 2 codes_f ≡ moves_f
unfolding is_accepting_lem transitions_of tabulate flat keep among any_of insert_ascending sorted well_coded pack fields mask num goes before onward automaton code.set_in code.rank_in component_in classes_in
    every satisfies inside bit rank_of level_of settled_up_to settled rejecting_settled accepting_settled mix is_open taken some_below count first largest open_of_lem next_component_lem is_core_lem component components
    is_smallest smallest together reaches within leads named entry sum
moves-F = refl

pub transitions-F : trimmed_transitions F ≡ moves_f
unfolding trimmed_transitions
transitions-F = ap (transitions_of (automaton F) 2) codes-F ∙ moves-F

-- what an evaluation unfolds
unfoldable computed : ℕ
unfolding afresh initial_set stepped_over stepped enters any_of tabulate macrostate.begun component_in classes_in bit members_of count
computed = 0

unfoldable stated : ℕ
unfolding computed empty called log_of state_of log_bytes for_marks flat padded two_bytes number_at_lem letters_in is_marked_lem put numbered with_set refreshed started arrived withdrawn marked returned shown
stated = 0

-- ---- sets

-- the second macrostate alone is initial: the set of the first lacks the initial state, the third has k 1
pub start-F : afresh 0 codes_f moves_f [] ≡ (0 ∷ 1 ∷ 0 ∷ [])
unfolding computed
start-F = refl

-- the second leads over letter 0 to the third alone, over letter 1 to the first and the third
pub zero-F : afresh 0 codes_f moves_f (0 ∷ []) ≡ (0 ∷ 0 ∷ 1 ∷ [])
unfolding computed
zero-F = refl

pub one-F : afresh 0 codes_f moves_f (1 ∷ []) ≡ (1 ∷ 0 ∷ 1 ∷ [])
unfolding computed
one-F = refl

pub three-F : afresh 0 codes_f moves_f (0 ∷ 1 ∷ 0 ∷ []) ≡ (1 ∷ 0 ∷ 1 ∷ [])
unfolding computed
three-F = refl

-- E has one macrostate, from 0 over letter 0 to 0; after letter 1 no continuation is accepted
pub empty-E : afresh 0 (1 ∷ []) (0 ∷ []) (0 ∷ 1 ∷ 0 ∷ []) ≡ (0 ∷ [])
unfolding computed
empty-E = refl

pub members-F : members_of 3 (1 ∷ 0 ∷ 1 ∷ []) ≡ 2
unfolding computed
members-F = refl

-- ---- histories

abbrev two : History
two = later (later at_start (Arrive 0)) (Arrive 1)

pub letters-two : held two ≡ (0 ∷ 1 ∷ [])
unfolding stated
letters-two = refl

pub withdraw-two : held (later two Withdraw) ≡ (0 ∷ [])
unfolding stated
withdraw-two = refl

-- a drill: mark 0 at 0, mark 1 at 0 1, back to mark 0
abbrev drill : History
drill = later (later (later (later (later at_start (Arrive 0)) (Mark 0)) (Arrive 1)) (Mark 1)) (Return 0)

pub letters-drill : held drill ≡ (0 ∷ [])
unfolding stated
letters-drill = refl

-- marks set after the returned-to moment stay
pub mark-stays : mark_of drill 1 ≡ at (0 ∷ 1 ∷ [])
unfolding stated
mark-stays = refl

-- a mark set again has the letters of the last time
pub set-again : mark_of (later (later drill (Arrive 1)) (Mark 0)) 0 ≡ at (0 ∷ 1 ∷ [])
unfolding stated
set-again = refl

-- a start clears letters and marks
pub started-again : (held (later drill Start) ≡ []) × (mark_of (later drill Start) 0 ≡ unset)
unfolding stated
started-again = (refl, refl)

-- ---- state

abbrev state_f : History → List ℕ
state_f h = state_of 0 codes_f moves_f h

-- the number of letters, the flags of marks, the numbers of their letters, the letters
pub front-drill : take 53 (state_f drill)
    ≡ (1 ∷ 0 ∷ []) ++ ((1 ∷ 1 ∷ replicate 14 0) ++ ((1 ∷ 0 ∷ 2 ∷ 0 ∷ replicate 28 0) ++ (0 ∷ 0 ∷ 0 ∷ [])))
unfolding stated
front-drill = refl

-- the letters of marks 0 and 1 stand at 562 and 1074, the set at 8754
pub marks-drill : take 3 (drop 1074 (state_f drill)) ≡ (0 ∷ 1 ∷ 0 ∷ [])
unfolding stated
marks-drill = refl

pub set-drill : take 4 (set_bytes (state_f drill)) ≡ (0 ∷ 0 ∷ 1 ∷ 0 ∷ [])
unfolding stated
set-drill = refl

-- ---- effects

-- an arrival: the letter, the number, the set one step on
pub arrived-F : (take 2 (arrived 0 codes_f moves_f 1 (state_f drill)) ≡ (2 ∷ 0 ∷ []))
    × (letters_in (arrived 0 codes_f moves_f 1 (state_f drill)) ≡ (0 ∷ 1 ∷ []))
    × (take 4 (set_bytes (arrived 0 codes_f moves_f 1 (state_f drill))) ≡ (1 ∷ 1 ∷ 0 ∷ 0 ∷ []))
unfolding stated
arrived-F = (refl, refl, refl)

-- a withdrawal: one letter fewer, its byte 0, and the set over the letters left
pub withdrawn-F : (take 2 (withdrawn 0 codes_f moves_f (state_f two)) ≡ (1 ∷ 0 ∷ []))
    × (take 2 (drop 50 (withdrawn 0 codes_f moves_f (state_f two))) ≡ (0 ∷ 0 ∷ []))
    × (take 4 (set_bytes (withdrawn 0 codes_f moves_f (state_f two))) ≡ (0 ∷ 0 ∷ 1 ∷ 0 ∷ []))
unfolding stated
withdrawn-F = (refl, refl, refl)

-- a mark: its flag, number and letters
pub marked-F : (take 5 (marked 1 (state_f two)) ≡ (2 ∷ 0 ∷ 0 ∷ 1 ∷ 0 ∷ []))
    × (take 4 (drop 18 (marked 1 (state_f two))) ≡ (0 ∷ 0 ∷ 2 ∷ 0 ∷ []))
    × (take 3 (drop 1074 (marked 1 (state_f two))) ≡ (0 ∷ 1 ∷ 0 ∷ []))
unfolding stated
marked-F = (refl, refl, refl)

-- a return, after two letters: letters and set of the mark, and the marks as they were
pub returned-F : (take 4 (returned 0 codes_f moves_f 1 (state_f drill)) ≡ (2 ∷ 0 ∷ 1 ∷ 1 ∷ []))
    × (letters_in (returned 0 codes_f moves_f 1 (state_f drill)) ≡ (0 ∷ 1 ∷ []))
    × (take 4 (set_bytes (returned 0 codes_f moves_f 1 (state_f drill))) ≡ (1 ∷ 1 ∷ 0 ∷ 0 ∷ []))
unfolding stated
returned-F = (refl, refl, refl)

-- a start clears the marks and has the initial set
pub started-F : (take 4 (started 0 codes_f moves_f (state_f drill)) ≡ (0 ∷ 0 ∷ 0 ∷ 0 ∷ []))
    × (take 4 (set_bytes (started 0 codes_f moves_f (state_f drill))) ≡ (0 ∷ 1 ∷ 0 ∷ 0 ∷ []))
unfolding stated
started-F = (refl, refl)

-- bytes of the set that are not 0 are shown as 1
pub shown-F : shown 3 (replicate 8754 0 ++ (0 ∷ 7 ∷ 1 ∷ [])) ≡ (0 ∷ 1 ∷ 1 ∷ [])
unfolding stated
shown-F = refl

-- ---- rows

unfoldable tried : ℕ
unfolding stated live_call_row live_call_rows arrival_rows table_rows_lem is_faulty_lem ascends log_rows slice_rows first_row in_words
tried = 0

abbrev row_f : LiveCall → List ℕ → ℕ → ℕ
row_f c state setLen = live_call_row c 2 (in_words codes_f) (in_words moves_f) state setLen

-- 30 at 512 letters and at more, not at 511: then 16, for a state of two bytes; 14 first
pub full : (row_f (Arrive 1) (0 ∷ 2 ∷ []) 3 ≡ 30) × (row_f (Arrive 1) (1 ∷ 2 ∷ []) 3 ≡ 30) × (row_f (Arrive 1) (255 ∷ 1 ∷ []) 3 ≡ 16) × (row_f (Arrive 2) (0 ∷ 2 ∷ []) 3 ≡ 14)
unfolding tried
full = (refl, refl, refl, refl)

-- 31 from none, also of a state with no byte
pub nothing-held : (row_f Withdraw [] 3 ≡ 31) × (row_f Withdraw (0 ∷ 0 ∷ []) 3 ≡ 31) × (row_f Withdraw (0 ∷ 1 ∷ []) 3 ≡ 16)
unfolding tried
nothing-held = (refl, refl, refl)

-- 32 from 16 on, before 33, which is not tried for a set mark
pub marks-rows : (row_f (Mark 15) [] 3 ≡ 16) × (row_f (Mark 16) [] 3 ≡ 32) × (row_f (Return 16) [] 3 ≡ 32) × (row_f (Return 15) [] 3 ≡ 33) × (row_f (Return 1) (0 ∷ 0 ∷ 0 ∷ 1 ∷ []) 3 ≡ 16)
    × (row_f (Return 0) (0 ∷ 0 ∷ 0 ∷ 1 ∷ []) 3 ≡ 33)
unfolding tried
marks-rows = (refl, refl, refl, refl, refl, refl)

-- 15 before 30 to 33: a transition over letter 1 where s is 1
pub fifteen-first : live_call_row Withdraw 1 (in_words codes_f) (in_words moves_f) [] 3 ≡ 15
unfolding tried
fifteen-first = refl
