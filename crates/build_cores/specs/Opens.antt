-- Open states before open states.
use Rattle.std.specs.Prelude.{◌≡◌, List, ℕ, ◌+◌, ◌*◌, ◌≤◌, ◌<◌, get_or}
use Rattle.sets.specs.Tests.{Set}
use Rattle.sets.specs.Masks.{bit, mask, exclusive}
use Rattle.theory.specs.Rule.{satisfies}
use Rattle.theory.specs.Automaton.{Automaton}
use Rattle.theory.specs.Core.{is_open}

module _ (A : Automaton) where
  -- the set whose open states are those of a mask
  unfoldable pub set_from : ℕ → Set
  set_from opened q = exclusive (A.accepting q) (bit opened q)

  -- the open states of the set before it at letter a; 01: "S holds q exactly if T's set satisfies q's entry."
  unfoldable pub open_before_lem : ℕ → ℕ → ℕ
  open_before_lem a opened = mask A.n (is_open A (λ q. satisfies A.n (set_from opened) (A.entry q a)))

  -- the table of it for s letters, 256 places a letter
  pub record Opens (s : ℕ) (opens : List ℕ) : Type 0 where
    pub few_letters : s ≤ 16
    pub table : (a opened : ℕ) → a < s → opened < 256 → get_or opens (a * 256 + opened) 0 ≡ open_before_lem a opened
