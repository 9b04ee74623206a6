-- What the checks of 01 give of a rule.
use Rattle.std.specs.Prelude.{◌≡◌, ℕ, ◌*◌, ◌^◌, ◌≤◌, ◌<◌, length}
use mathlib.Core.List.{Memᴰ}
use Rattle.sets.specs.Masks.{bit}
use Rattle.sets.specs.Lists.{sum}
use Rattle.theory.specs.Rule.{Rule}
use Rattle.theory.specs.Components.{Together}

-- the rule passes rows 3 to 10
pub record WellFormed (r : Rule) : Type 0 where
  -- 3
  pub some_state : 1 ≤ r.n
  pub few_states : r.n ≤ 8
  -- 4
  pub some_letter : 1 ≤ r.s
  pub few_letters : r.s ≤ 16
  -- 5
  pub initial_state : r.initial < r.n
  -- 6
  pub accepting_states : r.accepting < 2 ^ r.n
  -- 7
  pub all_entries : length r.counts ≡ r.n * r.s
  -- 8
  pub few_clauses : (x : ℕ) → Memᴰ x r.counts → x ≤ 8
  -- 9
  pub all_clauses : sum r.counts ≡ length r.clauses
  -- 10
  pub clause_states : (x : ℕ) → Memᴰ x r.clauses → x < 2 ^ r.n

-- 01: "A rule passes every check if no row of its group refuses it": rows 3 to 11
pub record Passing (r : Rule) : Type 0 where
  pub formed : WellFormed r
  -- 11: "Every component must be all accepting or all rejecting."
  pub unmixed : (q p : ℕ) → q < r.n → p < r.n → Together r q p → bit r.accepting q ≡ bit r.accepting p
