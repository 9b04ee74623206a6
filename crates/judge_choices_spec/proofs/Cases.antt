-- Choices, evaluated.
use mathlib.Core.Path.{◌≡◌, refl}
use mathlib.Core.List.{[], ◌∷◌}
use Rattle.sets.specs.Tests.{every, some_below, count, first}
use Rattle.sets.specs.Masks.{bit, mask, inside}
use Rattle.sets.specs.Lists.{sum, tabulate}
use Rattle.theory.specs.Rule.{Rule, entry, satisfies}
use Rattle.theory.specs.Automaton.{automaton}
use Rattle.theory.specs.Components.{named, leads, within, reaches, together, smallest, is_smallest, component}
use Rattle.theory.specs.Core.{mix}
use Rattle.theory.specs.Word.{next_place_lem, letter_at_lem}
use Rattle.theory.specs.Truth.{height_of, layer, rounds_at, solved_below, truth_masks}
use Rattle.rule_entries.specs.Met.{met_from}
use Rattle.judge_choices_spec.specs.ChoicesComputed.{number_of, aim_of, nearer, near_at, distance_at, aim_at, choice_at, choices_by, choices_of}

-- State 0, rejecting, may stay or go on to state 1, which is accepting and stays.
stay : Rule
stay = record { n = 2; s = 1; initial = 0; accepting = 2; counts = 2 ∷ (1 ∷ []); clauses = 1 ∷ (2 ∷ (2 ∷ [])) }

-- Both states are true at every place. The first clause of state 0 whose states are true is 0, and a plan that takes it never leaves: the choice is 1.
stay-choices : choices_of stay [] (0 ∷ []) ≡ 1 ∷ (0 ∷ [])
unfolding stay choices_by choice_at aim_at aim_of distance_at near_at nearer number_of met_from truth_masks solved_below rounds_at layer height_of next_place_lem letter_at_lem reaches within leads named entry satisfies
    sum tabulate bit mask inside every some_below count first mix automaton component smallest is_smallest together
stay-choices = refl

-- States 0 and 1 are rejecting and each a component of its own. State 0 may go on to 1 or to 2, state 1 only to 2, which is accepting and stays.
apart : Rule
apart = record { n = 3; s = 1; initial = 0; accepting = 4; counts = 2 ∷ (1 ∷ (1 ∷ [])); clauses = 2 ∷ (4 ∷ (4 ∷ (4 ∷ []))) }

-- Both have distance 1. A smaller distance is asked only within the component, so the choice of state 0 is 0.
apart-choices : choices_of apart [] (0 ∷ []) ≡ 0 ∷ (0 ∷ (0 ∷ []))
unfolding apart choices_by choice_at aim_at aim_of distance_at near_at nearer number_of met_from truth_masks solved_below rounds_at layer height_of next_place_lem letter_at_lem reaches within leads named entry satisfies
    sum tabulate bit mask inside every some_below count first mix automaton component smallest is_smallest together
apart-choices = refl

-- State 0 goes to 1 or stays over letter 0 and is done over letter 1; state 1, in its component, goes to 0 over either.
turn : Rule
turn = record { n = 2; s = 2; initial = 0; accepting = 0; counts = 2 ∷ (1 ∷ (1 ∷ (1 ∷ []))); clauses = 2 ∷ (1 ∷ (0 ∷ (1 ∷ (1 ∷ [])))) }

-- Over the cycle 0 1: at place 1 state 0 has distance 1 and state 1 has distance 3; at place 0 state 0 has distance 2, and so it stays: choice 1.
turn-choices : choices_of turn [] (0 ∷ (1 ∷ [])) ≡ 1 ∷ (0 ∷ (0 ∷ (0 ∷ [])))
unfolding turn choices_by choice_at aim_at aim_of distance_at near_at nearer number_of met_from truth_masks solved_below rounds_at layer height_of next_place_lem letter_at_lem reaches within leads named entry satisfies
    sum tabulate bit mask inside every some_below count first mix automaton component smallest is_smallest together
turn-choices = refl

-- Over the cycle 0 nothing is true.
turn-false : choices_of turn [] (0 ∷ []) ≡ 255 ∷ (255 ∷ [])
unfolding turn choices_by choice_at aim_at aim_of distance_at near_at nearer number_of met_from truth_masks solved_below rounds_at layer height_of next_place_lem letter_at_lem reaches within leads named entry satisfies
    sum tabulate bit mask inside every some_below count first mix automaton component smallest is_smallest together
turn-false = refl
