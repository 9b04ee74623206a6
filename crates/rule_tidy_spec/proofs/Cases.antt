-- What stays of entries and of rules, computed from the definitions.
use mathlib.Core.Path.{◌≡◌, refl}
use mathlib.Core.Bool.{true, false}
use mathlib.Core.List.{[], ◌∷◌}
use Rattle.sets.specs.Tests.{every, some_below, count, first}
use Rattle.sets.specs.Masks.{bit, mask, inside}
use Rattle.sets.specs.Lists.{any_of, among, sum}
use Rattle.theory.specs.Rule.{Rule, entry}
use Rattle.theory.specs.Components.{named, leads, within, reaches, together, smallest, is_smallest, components}
use Rattle.rule_tidy_spec.specs.Tidy.{properly_contains, drops, tidy_from, tidy_entry_lem, tidy_counts, tidy_clauses, tidy_rule_lem, minimal, first_minimal}
use Rattle.file_spec.specs.RuleRows.{nested, some_nested}

-- ---- entries over three states

-- of two equal clauses the first stays
pub copy_goes : tidy_entry_lem 3 (1 ∷ 2 ∷ 1 ∷ []) ≡ 1 ∷ 2 ∷ []
copy_goes = unfold tidy_entry_lem tidy_from drops properly_contains any_of inside every bit in refl

-- a clause that properly contains a later one goes
pub superset-before : tidy_entry_lem 3 (3 ∷ 4 ∷ 1 ∷ []) ≡ 4 ∷ 1 ∷ []
superset-before = unfold tidy_entry_lem tidy_from drops properly_contains any_of inside every bit in refl

-- and one that contains an earlier one
pub superset-after : tidy_entry_lem 3 (1 ∷ 4 ∷ 5 ∷ []) ≡ 1 ∷ 4 ∷ []
superset-after = unfold tidy_entry_lem tidy_from drops properly_contains any_of inside every bit in refl

-- every clause contains the empty one
pub empty-stays : tidy_entry_lem 3 (7 ∷ 0 ∷ 2 ∷ 0 ∷ []) ≡ 0 ∷ []
empty-stays = unfold tidy_entry_lem tidy_from drops properly_contains any_of inside every bit in refl

-- clauses none of which contains another stay, in their order
pub antichain-stays : tidy_entry_lem 3 (6 ∷ 3 ∷ 5 ∷ []) ≡ 6 ∷ 3 ∷ 5 ∷ []
antichain-stays = unfold tidy_entry_lem tidy_from drops properly_contains any_of inside every bit in refl

-- the first copies of the minimal clauses
pub minimal-first : first_minimal 3 (3 ∷ 1 ∷ 4 ∷ 1 ∷ []) [] (3 ∷ 1 ∷ 4 ∷ 1 ∷ []) ≡ 1 ∷ 4 ∷ []
minimal-first = unfold first_minimal minimal among properly_contains any_of inside every bit in refl

-- ---- rules

-- two states and one letter; state 1 is left for good by the empty clause, and its other clause leads back to state 0
abbrev pub glued : Rule
glued = record { n = 2; s = 1; initial = 0; accepting = 0; counts = 1 ∷ 2 ∷ []; clauses = 3 ∷ 1 ∷ 0 ∷ [] }

-- `glued` without the clause of state 1 that leads back to state 0
abbrev pub split : Rule
split = record { n = 2; s = 1; initial = 0; accepting = 0; counts = 1 ∷ 1 ∷ []; clauses = 3 ∷ 0 ∷ [] }

pub split-by-tidying : tidy_rule_lem glued ≡ split
split-by-tidying = unfold tidy_rule_lem tidy_counts tidy_clauses tidy_entry_lem tidy_from drops properly_contains any_of inside every bit in refl

-- 02: "such a clause can glue components together"
pub glued-components : (components glued ≡ 1) × (components split ≡ 2)
unfolding components is_smallest smallest together reaches within leads named entry sum some_below count first bit mask
glued-components = (refl, refl)

-- clauses of different entries are not compared: the clause 01 stays in the entry after 01, and 03 in the entry before 01
pub entries-apart : tidy_rule_lem (record { n = 2; s = 2; initial = 0; accepting = 0; counts = 1 ∷ 1 ∷ 1 ∷ 1 ∷ []; clauses = 1 ∷ 1 ∷ 3 ∷ 1 ∷ [] })
    ≡ record { n = 2; s = 2; initial = 0; accepting = 0; counts = 1 ∷ 1 ∷ 1 ∷ 1 ∷ []; clauses = 1 ∷ 1 ∷ 3 ∷ 1 ∷ [] }
entries-apart = unfold tidy_rule_lem tidy_counts tidy_clauses tidy_entry_lem tidy_from drops properly_contains any_of inside every bit in refl

-- ---- clauses inside one another

pub nested-cases : (nested 3 (1 ∷ 2 ∷ 1 ∷ []) ≡ true) × (nested 3 (3 ∷ 4 ∷ 1 ∷ []) ≡ true) × (nested 3 (6 ∷ 3 ∷ 5 ∷ []) ≡ false) × (some_nested glued ≡ true) × (some_nested split ≡ false)
nested-cases = unfold nested some_nested entry sum some_below inside every bit in (refl, refl, refl, refl, refl)
