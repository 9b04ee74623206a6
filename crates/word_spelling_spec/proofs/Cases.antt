-- What the definitions give for examples.
use mathlib.Core.Path.{◌≡◌, refl}
use mathlib.Core.Bool.{true, false}
use mathlib.Core.List.{[], ◌∷◌, ◌++◌}
use Prim.Native.Nat.{ℕ}
use lib.ListN.{replicate}
use Rattle.sets.specs.Tests.{every, first}
use Rattle.theory.specs.Word.{next_place_lem, letter_at_lem, place}
use Rattle.word_spelling_spec.specs.SpellingComputed.{comes_again_lem, cycle_length_lem, shortened, lead_length_lem, tidy_lead, tidy_cycle, same_word}

-- what an evaluation unfolds
unfoldable computed : ℕ
unfolding tidy_lead tidy_cycle lead_length_lem cycle_length_lem comes_again_lem shortened same_word every first letter_at_lem next_place_lem place
computed = 0

-- 02: "lead-in 0 with cycle 1 0" and "cycle 0 1"
pub duty-lead : tidy_lead (0 ∷ []) (1 ∷ 0 ∷ []) ≡ []
duty-lead = unfold computed in refl

pub duty-cycle : tidy_cycle (0 ∷ []) (1 ∷ 0 ∷ []) ≡ (0 ∷ 1 ∷ [])
duty-cycle = unfold computed in refl

pub duty-same : same_word (0 ∷ []) (1 ∷ 0 ∷ []) [] (0 ∷ 1 ∷ []) ≡ true
duty-same = unfold computed in refl

-- a cycle that repeats in itself, after a lead-in of which part belongs to the cycle
pub twice-lead : tidy_lead (2 ∷ 1 ∷ []) (0 ∷ 1 ∷ 0 ∷ 1 ∷ []) ≡ (2 ∷ [])
twice-lead = unfold computed in refl

pub twice-cycle : tidy_cycle (2 ∷ 1 ∷ []) (0 ∷ 1 ∷ 0 ∷ 1 ∷ []) ≡ (1 ∷ 0 ∷ [])
twice-cycle = unfold computed in refl

-- a cycle whose first letters come again, but not the last, is not cut
pub begun-cycle : tidy_cycle [] (0 ∷ 1 ∷ 0 ∷ []) ≡ (0 ∷ 1 ∷ 0 ∷ [])
begun-cycle = unfold computed in refl

-- 0 0 1 0 0 comes again after three letters at its start, but not where the cycle turns
pub begun-longer : cycle_length_lem (0 ∷ 0 ∷ 1 ∷ 0 ∷ 0 ∷ []) ≡ 5
begun-longer = unfold computed in refl

-- a rotation of a cycle is another word
pub rotation-differs : same_word [] (0 ∷ 1 ∷ []) [] (1 ∷ 0 ∷ []) ≡ false
rotation-differs = unfold computed in refl

pub rotation-tidy : tidy_cycle [] (1 ∷ 0 ∷ []) ≡ (1 ∷ 0 ∷ [])
rotation-tidy = unfold computed in refl

-- two words within the limits that agree at their first 93 steps and differ at the next
pub late-difference : same_word (replicate 32 0) (replicate 30 0 ++ (1 ∷ [])) (replicate 32 0) (replicate 30 0 ++ (1 ∷ 0 ∷ [])) ≡ false
late-difference = unfold computed in refl
