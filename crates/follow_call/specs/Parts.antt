-- What a served call leaves of the slice: the set of n macrostates in front of the bytes as lent, and both counts.
use Rattle.std.specs.Prelude.{◌≡◌, List, ◌++◌, ℕ, drop}
use Rattle.live_spec.specs.Afresh.{members_of}
use Rattle.follow_spec.specs.declared.FollowCounts.{FollowCounts}

pub record PartLeft (n : ℕ) (left : List ℕ) (letters : ℕ) (set set' : List ℕ) (v : FollowCounts) : Type 0 where
  pub set_left : set' ≡ left ++ drop n set
  pub counts : v ≡ record { left = members_of n left; letters = letters }
