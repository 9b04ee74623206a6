-- The two ways to contain a clause, and what a slice holds that is filled from its start.
use Rattle.std.specs.Prelude.{◌≡◌, Bool, true, false, cond, List, [], ◌∷◌, ◌++◌, ℕ, ◌+◌, ◌≤◌, length, take, drop}
use Rattle.sets.specs.Tests.{Set}
use Rattle.rule_tidy_spec.specs.Tidy.{contains, properly_contains, drops}

-- the clause c, a mask of eight states, contains another, or contains it properly
abbrev pub containing : Bool → ℕ → Set
containing true = properly_contains 8
containing false = contains 8

-- 02: "fills lent slices from their start and leaves the rest as lent": front stands at the start of the slice that held old
abbrev pub filled : List ℕ → List ℕ → List ℕ
filled front old = front ++ drop (length front) old

-- the clauses kept of the entry all once c is tried, kept those before it; the masks have eight states
unfoldable pub kept_with : List ℕ → List ℕ → ℕ → List ℕ
kept_with all kept c = cond (drops 8 all kept c) kept (kept ++ (c ∷ []))

-- a slice whose first k elements are the clauses kept, before and after c is tried
pub record Kept (all old : List ℕ) (k c : ℕ) (new : List ℕ) (m : ℕ) : Type 0 where
  pub fewest : k ≤ m
  pub most : m ≤ k + 1
  pub long : length new ≡ length old
  pub front : take m new ≡ kept_with all (take k old) c
  pub rest : drop m new ≡ drop m old
