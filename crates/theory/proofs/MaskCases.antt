-- The masks of cases 5 to 9 of 01, evaluated.
use mathlib.Core.Path.{◌≡◌, refl}
use mathlib.Core.List.{[], ◌∷◌}
use Rattle.sets.specs.Tests.{every, some_below, count}
use Rattle.sets.specs.Masks.{bit, mask, inside}
use Rattle.sets.specs.Lists.{tabulate, sum}
use Rattle.theory.specs.Rule.{entry, satisfies}
use Rattle.theory.specs.Components.{reaches, named, leads, within}
use Rattle.theory.specs.Word.{next_place_lem, letter_at_lem}
use Rattle.theory.specs.Truth.{height_of, layer, rounds_at, solved_below, truth_masks}
use Rattle.theory.specs.Examples.{F, D, I}

-- 5: "F, lead-in 0 1, cycle 0: yes, masks 01 01 00"
case-5 : truth_masks F (0 ∷ 1 ∷ []) (0 ∷ []) ≡ 1 ∷ 1 ∷ 0 ∷ []
unfolding truth_masks solved_below rounds_at layer height_of next_place_lem letter_at_lem reaches within leads named entry satisfies sum tabulate bit mask inside every some_below count
case-5 = refl

-- 6: "F, cycle 0: no, 00"
case-6 : truth_masks F [] (0 ∷ []) ≡ 0 ∷ []
unfolding truth_masks solved_below rounds_at layer height_of next_place_lem letter_at_lem reaches within leads named entry satisfies sum tabulate bit mask inside every some_below count
case-6 = refl

-- 7: "I, lead-in 1, cycle 0: no, 02 00"
case-7 : truth_masks I (1 ∷ []) (0 ∷ []) ≡ 2 ∷ 0 ∷ []
unfolding truth_masks solved_below rounds_at layer height_of next_place_lem letter_at_lem reaches within leads named entry satisfies sum tabulate bit mask inside every some_below count
case-7 = refl

-- 8: "I, cycle 0 1: yes, 03 03"
case-8 : truth_masks I [] (0 ∷ 1 ∷ []) ≡ 3 ∷ 3 ∷ []
unfolding truth_masks solved_below rounds_at layer height_of next_place_lem letter_at_lem reaches within leads named entry satisfies sum tabulate bit mask inside every some_below count
case-8 = refl

-- 9: "D, cycle 0: yes, 03"
case-9 : truth_masks D [] (0 ∷ []) ≡ 3 ∷ []
unfolding truth_masks solved_below rounds_at layer height_of next_place_lem letter_at_lem reaches within leads named entry satisfies sum tabulate bit mask inside every some_below count
case-9 = refl
