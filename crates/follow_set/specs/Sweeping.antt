-- A letter in one walk over the set, macrostate by macrostate, and the set over letters.
use Rattle.std.specs.Prelude.{◌≡◌, List, ℕ, ◌≤◌, ◌<◌, length, get_or, take}
use Rattle.theory.specs.Run.{source_of, letter_of_lem}
use Rattle.live_spec.specs.Afresh.{stepped_over, members_of}
use Rattle.live_set.specs.Sweeps.{Swept}
use Rattle.follow_spec.specs.declared.FollowCounts.{FollowCounts}
use Rattle.follow_spec.specs.Set.{emptied_after}

-- r is the first place from `from` on whose number is x or more, or the end; all from there on are
pub record Placed (xs : List ℕ) (from x r : ℕ) : Type 0 where
  pub ordered : from ≤ r
  pub within : r ≤ length xs
  pub under : (k : ℕ) → from ≤ k → k < r → get_or xs k 0 < x
  pub over : (k : ℕ) → r ≤ k → k < length xs → x ≤ get_or xs k 0

-- the macrostates below x are through: the transitions before place p are swept, and of those from there on none from below x over the letter has its source in the set
pub record Sweeping (a : ℕ) (ts before after : List ℕ) (x p : ℕ) : Type 0 where
  pub swept : Swept a (take p ts) before after
  pub none : (i : ℕ) → p ≤ i → i < length ts → source_of (get_or ts i 0) < x → letter_of_lem (get_or ts i 0) ≡ a → get_or before (source_of (get_or ts i 0)) 0 ≡ 0

-- what letters leave of a set of bytes 0 and 1, and both counts
pub record Taken (ts letters set set' : List ℕ) (v : FollowCounts) : Type 0 where
  pub set_left : set' ≡ stepped_over (length set) ts letters set
  pub counts : v ≡ record { left = members_of (length set) (stepped_over (length set) ts letters set); letters = emptied_after (length set) ts letters set }
