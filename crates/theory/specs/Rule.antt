-- The rule: an alternating automaton over the states 0 to n-1 and the letters 0 to s-1, given by its entries.
use Rattle.std.specs.Prelude.{Bool, false, ◌||◌, cond, List, [], ◌∷◌, ℕ, ◌+◌, ◌*◌, ltb, get_or, take, drop}
use Rattle.sets.specs.Tests.{Set}
use Rattle.sets.specs.Masks.{inside}
use Rattle.sets.specs.Lists.{sum}

-- 01: "a rule's numbers, counts and clauses"
pub record Rule : Type 0 where
  -- how many states
  pub n : ℕ
  -- how many letters
  pub s : ℕ
  pub initial : ℕ
  -- the mask of the accepting states
  pub accepting : ℕ
  -- how many clauses each entry has: "by state, then letter"
  pub counts : List ℕ
  -- the clauses "in the same order, one mask each"
  pub clauses : List ℕ

-- 01, "entry": the clauses of state q at letter a; what is no letter has none
unfoldable pub entry : Rule → ℕ → ℕ → List ℕ
unfolding sum
entry r q a = let i = q * r.s + a in cond (ltb a r.s) (take (get_or r.counts i 0) (drop (sum (take i r.counts)) r.clauses)) []

-- 01: "A set satisfies an entry if it contains all states of some clause. No clause: never satisfied. An empty clause: always."
-- The states are those below n.
unfoldable pub satisfies : ℕ → Set → List ℕ → Bool
satisfies n X [] = false
satisfies n X (c ∷ cs) = inside n X c || satisfies n X cs
