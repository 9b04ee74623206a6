-- The tidied rule: of each entry the clauses that stay.
use Rattle.std.specs.Prelude.{true, false, ◌&&◌, ◌||◌, not, List, [], ◌∷◌, ◌++◌, ℕ, length, take, drop}
use Rattle.sets.specs.Tests.{Set}
use Rattle.sets.specs.Masks.{bit, inside}
use Rattle.sets.specs.Lists.{any_of, among}
use Rattle.theory.specs.Rule.{Rule}

-- a clause c that contains a clause d: all states of d are in c; the states are those below n
abbrev pub contains : ℕ → ℕ → Set
contains n c d = inside n (bit c) d

-- properly: and d does not contain c
unfoldable pub properly_contains : ℕ → ℕ → Set
properly_contains n c d = contains n c d && not (contains n d c)

-- 02: "drops every clause containing an earlier kept one or properly containing any": c is a clause of the entry all, kept are the clauses kept before it
unfoldable pub drops : ℕ → List ℕ → List ℕ → Set
drops n all kept c = any_of kept (contains n c) || any_of all (properly_contains n c)

-- the clauses kept of the entry all: kept so far, and those kept of cs, which follow
unfoldable pub tidy_from : ℕ → List ℕ → List ℕ → List ℕ → List ℕ
tidy_from n all kept [] = kept
tidy_from n all kept (c ∷ cs) = elim (drops n all kept c) [ true ↦ tidy_from n all kept cs | false ↦ tidy_from n all (kept ++ (c ∷ [])) cs ]

-- the clauses kept of an entry, in their order
unfoldable pub tidy_entry_lem : ℕ → List ℕ → List ℕ
tidy_entry_lem n cs = tidy_from n cs [] cs

-- entry by entry: each count takes as many of the clauses. How many clauses each entry keeps
unfoldable pub tidy_counts : ℕ → List ℕ → List ℕ → List ℕ
tidy_counts n [] clauses = []
tidy_counts n (k ∷ counts) clauses = length (tidy_entry_lem n (take k clauses)) ∷ tidy_counts n counts (drop k clauses)

-- and the clauses that it keeps
unfoldable pub tidy_clauses : ℕ → List ℕ → List ℕ → List ℕ
tidy_clauses n [] clauses = []
tidy_clauses n (k ∷ counts) clauses = tidy_entry_lem n (take k clauses) ++ tidy_clauses n counts (drop k clauses)

-- 02: "The tidied rule"
unfoldable pub tidy_rule_lem : Rule → Rule
tidy_rule_lem r = record {
  n = r.n;
  s = r.s;
  initial = r.initial;
  accepting = r.accepting;
  counts = tidy_counts r.n r.counts r.clauses;
  clauses = tidy_clauses r.n r.counts r.clauses;
}

-- ---- what stays, said without the walk (equal: rule_tidy_spec/proofs/Minimal, tidy-minimal)

-- c properly contains no clause of the entry all
unfoldable pub minimal : ℕ → List ℕ → Set
minimal n all c = not (any_of all (properly_contains n c))

-- the minimal clauses among cs in their order, each at its first place; seen are the clauses before cs
unfoldable pub first_minimal : ℕ → List ℕ → List ℕ → List ℕ → List ℕ
first_minimal n all seen [] = []
first_minimal n all seen (c ∷ cs) =
    elim (minimal n all c && not (among seen c)) [ true ↦ c ∷ first_minimal n all (c ∷ seen) cs | false ↦ first_minimal n all (c ∷ seen) cs ]
