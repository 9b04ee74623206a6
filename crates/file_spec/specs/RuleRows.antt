-- The refusals of a rule, in order of checking: rows 3 to 6, 8 to 10, 20 and 11.
use Rattle.std.specs.Prelude.{ℕ, ◌^◌, List, [], ◌∷◌, ◌++◌, Bool, not, ◌&&◌, ◌||◌, length, get_or, ltb, leb, eqb}
use Rattle.sets.specs.Tests.{some_below}
use Rattle.sets.specs.Masks.{bit, inside}
use Rattle.sets.specs.Lists.{any_of, sum}
use Rattle.refusals.specs.Rows.{Check, check}
use Rattle.refusals.specs.declared.Refusal.TheVariants.{States, Letters, Initial, Accepting, Count, Sum, Clause, Mixed, ClauseInside}
use Rattle.theory.specs.Rule.{Rule, entry}
use Rattle.theory.specs.Components.{mixed}
use Rattle.rule_entries.specs.declared.Head.{Head}

-- x is outside a..b
abbrev pub outside : ℕ → ℕ → ℕ → Bool
outside a b x = ltb x a || ltb b x

-- the mask m "names a state not below n"
abbrev pub names_beyond : ℕ → ℕ → Bool
names_beyond n m = leb (2 ^ n) m

-- rows 3 to 6, of a rule's numbers
unfoldable pub number_rows : Head → List Check
number_rows h =
    -- "n outside 1..8"
    check (outside 1 8 h.n) States
    -- "s outside 1..16"
    ∷ check (outside 1 16 h.s) Letters
    -- "initial state not below n"
    ∷ check (leb h.n h.initial) Initial
    -- "accepting mask names a state not below n"
    ∷ check (names_beyond h.n h.accepting) Accepting
    ∷ []

-- rows 8 to 10, of a rule's lists
unfoldable pub list_rows : ℕ → List ℕ → List ℕ → List Check
list_rows n counts clauses =
    -- "a count over 8"
    check (any_of counts (λ x. ltb 8 x)) Count
    -- "counts do not sum to c"
    ∷ check (not (eqb (sum counts) (length clauses))) Sum
    -- "a clause names a state not below n"
    ∷ check (any_of clauses (names_beyond n)) Clause
    ∷ []

-- the clauses cs of an entry over n states: clause i "contains another of its clauses", j; at two different places equal clauses contain each other
abbrev pub contains_at_lem : ℕ → List ℕ → ℕ → ℕ → Bool
contains_at_lem n cs i j = not (eqb i j) && inside n (bit (get_or cs i 0)) (get_or cs j 0)

-- 02: "an entry with a clause that contains another of its clauses"
unfoldable pub nested : ℕ → List ℕ → Bool
nested n cs = some_below (length cs) (λ i. some_below (length cs) (λ j. contains_at_lem n cs i j))

-- some entry of the rule is nested; clauses of different entries are not compared
unfoldable pub some_nested : Rule → Bool
some_nested r = some_below r.n (λ q. some_below r.s (λ a. nested r.n (entry r q a)))

-- row 20, of a rule's entries. 02: "after 10 and before 11"
unfoldable pub clause_rows : Rule → List Check
clause_rows r =
    -- "an entry with a clause that contains another of its clauses"
    check (some_nested r) ClauseInside ∷ []

-- row 11, of a rule's components
unfoldable pub component_rows : Rule → List Check
component_rows r =
    -- "a mixed component"
    check (mixed r) Mixed ∷ []

-- rows 20 and 11, of a rule that rows 1 to 10 pass
unfoldable pub formed_rows : Rule → List Check
formed_rows r = clause_rows r ++ component_rows r
