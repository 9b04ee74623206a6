-- What a call has passed by rows 14 and 30 to 33, and what is left by one that is served.
use Rattle.std.specs.Prelude.{◌≡◌, List, ℕ, ◌<◌}
use Rattle.live_spec.specs.declared.LiveCall.{LiveCall}
use Rattle.live_spec.specs.declared.LiveCall.TheVariants.{Start, Arrive, Withdraw, Mark, Return}
use Rattle.live_spec.specs.declared.LiveCounts.{LiveCounts}
use Rattle.live_spec.specs.Afresh.{members_of}
use Rattle.live_spec.specs.Effects.{put, shown}
use Rattle.live_spec.specs.State.{number_in, set_bytes}

abbrev pub Callable : LiveCall → List ℕ → Type 0
Callable Start state = Unit {0}
Callable (Arrive a) state = (a < 256) × (number_in state < 512)
Callable Withdraw state = 0 < number_in state
Callable (Mark m) state = m < 16
Callable (Return m) state = m < 16

-- the bytes left of state, the set of n macrostates at the start of its slice, and both counts
pub record Counted (n : ℕ) (left set state' set' : List ℕ) (v : LiveCounts) : Type 0 where
  pub state_left : state' ≡ left
  pub set_left : set' ≡ put 0 (shown n left) set
  pub counts : v ≡ record { letters = number_in left; macrostates = members_of n (set_bytes left) }
