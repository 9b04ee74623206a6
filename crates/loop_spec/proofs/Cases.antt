-- Examples of mixed loops and of the report, evaluated on rules of one letter.
use mathlib.Core.Path.{◌≡◌, refl}
use mathlib.Core.Bool.{true, false}
use mathlib.Core.List.{List, [], ◌∷◌}
use Prim.Native.Nat.{ℕ}
use lib.ListN.{length, replicate}
use Rattle.sets.specs.Tests.{some_below, first}
use Rattle.sets.specs.Masks.{bit, mask}
use Rattle.sets.specs.Lists.{sum, tabulate, any_of, all_of}
use Rattle.theory.specs.Rule.{Rule, entry}
use Rattle.theory.specs.Components.{named, leads}
use Rattle.rule_reach.specs.Tables.{table}
use Rattle.loop_spec.specs.Loops.{along, all_below, at_most, is_closed_walk, passes_both, is_mixed_loop}
use Rattle.loop_spec.specs.Search.{others_of_lem, sources, step_back_lem, ways, route, begins, further, loop_by, loop_of}

-- what an evaluation unfolds
unfoldable pub computed : ℕ
unfolding loop_of loop_by further begins route ways step_back_lem sources others_of_lem is_mixed_loop passes_both is_closed_walk at_most all_below along table tabulate some_below first bit mask leads named entry sum
    any_of all_of
computed = 0

-- the rule with the mask of its accepting states, and for each state the mask of the states that it leads to
abbrev rule_by : ℕ → List ℕ → Rule
rule_by accepting clauses = record { n = length clauses; s = 1; initial = 0; accepting = accepting; counts = replicate (length clauses) 1; clauses = clauses }

-- 01's example of row 11: both states lead to each other, the first is accepting
abbrev pair : Rule
pair = rule_by 1 (2 ∷ 1 ∷ [])

-- ---- closed walks

pair-loop : is_mixed_loop pair (0 ∷ 1 ∷ []) ≡ true
unfolding computed
pair-loop = refl

-- a walk may pass a state again
pair-twice : is_mixed_loop pair (0 ∷ 1 ∷ 0 ∷ 1 ∷ []) ≡ true
unfolding computed
pair-twice = refl

-- the first state is not repeated at the end
pair-repeated : is_mixed_loop pair (0 ∷ 1 ∷ 0 ∷ []) ≡ false
unfolding computed
pair-repeated = refl

-- one kind of state does not do
pair-one-kind : is_mixed_loop (rule_by 3 (2 ∷ 1 ∷ [])) (0 ∷ 1 ∷ []) ≡ false
unfolding computed
pair-one-kind = refl

-- a step that no clause gives
no_step : is_mixed_loop (rule_by 1 (2 ∷ 2 ∷ [])) (0 ∷ 1 ∷ []) ≡ false
unfolding computed
no_step = refl

number-by-number : at_most (0 ∷ 3 ∷ []) (1 ∷ 2 ∷ []) ≡ true
unfolding computed
number-by-number = refl

later-number : at_most (0 ∷ 3 ∷ []) (0 ∷ 2 ∷ []) ≡ false
unfolding computed
later-number = refl

-- ---- the report

two : loop_of pair ≡ 0 ∷ 1 ∷ []
unfolding computed
two = refl

eight : loop_of (rule_by 128 (32 ∷ 64 ∷ 128 ∷ 16 ∷ 1 ∷ 4 ∷ 8 ∷ 2 ∷ [])) ≡ 0 ∷ 5 ∷ 2 ∷ 7 ∷ 1 ∷ 6 ∷ 3 ∷ 4 ∷ []
unfolding computed
eight = refl

unmixed : loop_of (rule_by 3 (2 ∷ 1 ∷ [])) ≡ []
unfolding computed
unmixed = refl

-- 1 and 2 are a loop of the same length; the least list begins at 0
least-begins : loop_of (rule_by 3 (8 ∷ 4 ∷ 2 ∷ 1 ∷ [])) ≡ 0 ∷ 3 ∷ []
unfolding computed
least-begins = refl

-- 0 and 2 are a loop of the same length that begins at 0 too
least-next : loop_of (rule_by 1 (6 ∷ 1 ∷ 1 ∷ [])) ≡ 0 ∷ 1 ∷ []
unfolding computed
least-next = refl

-- 0, 1 and 2 are a longer loop
shorter-later : loop_of (rule_by 9 (2 ∷ 4 ∷ 1 ∷ 16 ∷ 8 ∷ [])) ≡ 3 ∷ 4 ∷ []
unfolding computed
shorter-later = refl

-- 0 and 1 are a shorter loop of one kind
one-kind-shorter : loop_of (rule_by 4 (2 ∷ 5 ∷ 1 ∷ [])) ≡ 0 ∷ 1 ∷ 2 ∷ []
unfolding computed
one-kind-shorter = refl

-- 0, 1 and 2 are a lesser list of one kind
one-kind-least : loop_of (rule_by 8 (2 ∷ 12 ∷ 1 ∷ 1 ∷ [])) ≡ 0 ∷ 1 ∷ 3 ∷ []
unfolding computed
one-kind-least = refl
