-- An arrival that tries row 15 on the transitions while it steps.
use Rattle.std.specs.Prelude.{◌≡◌, Bool, true, false, List, ℕ, ◌+◌, ◌%◌, ◌≤◌, ◌<◌, length, get_or}
use Rattle.sets.specs.Lists.{any_of}
use Rattle.slice_search.specs.Places.{ascends}
use Rattle.table_lent.specs.Lent.{words_in, in_bytes_lem, is_high}
use Rattle.live_spec.specs.declared.LiveCall.{LiveCall}
use Rattle.live_spec.specs.Afresh.{stepped}
use Rattle.live_spec.specs.State.{set_at, set_bytes, state_length_lem, number_in}
use Rattle.live_spec.specs.Effects.{with_set}
use Rattle.live_spec.specs.Called.{effect}
use Rattle.live_spec.specs.Rows.{live_call_row}
use Rattle.live_arrive.specs.Tried.{passes}
use Rattle.live_arrive.specs.declared.Quick.{Quick}
use Rattle.live_arrive.specs.declared.Quick.TheVariants.{Served, Refused, Untried}

-- what row 15 asks of codes but for their number
pub record Coded (codes : List ℕ) : Type 0 where
  pub ascending : ascends codes ≡ true
  pub narrow : any_of codes is_high ≡ false

-- no row refuses the arrival but 15 for its transitions, and the bytes of the set are 0 or 1
pub record Triable (s a : ℕ) (codes transitions state : List ℕ) (room : ℕ) : Type 0 where
  pub known : a < s
  pub free : number_in state < 512
  pub long : state_length_lem ≤ length state
  pub whole : length codes % 8 ≡ 0
  pub whole_transitions : length transitions % 8 ≡ 0
  pub few : length (words_in codes) ≤ 65536
  pub fits : length (words_in codes) ≤ room
  pub coded : Coded (words_in codes)
  pub flags : (y : ℕ) → y < length (words_in codes) → get_or state (set_at + y) 0 ≤ 1

-- the step of state's set of n macrostates: made, or taken back
pub record PartStepped (s a n : ℕ) (ts before after : List ℕ) (r : Bool) : Type 0 where
  pub verdict : r ≡ passes n s ts
  pub yes : r ≡ true → after ≡ with_set (stepped n ts a (set_bytes before)) before
  pub no : r ≡ false → after ≡ before

-- a call, for a rule of s letters and a table in bytes: made, or refused by 15, or not tried
pub record Quickly (c : LiveCall) (s : ℕ) (codes transitions state : List ℕ) (room : ℕ) (state' : List ℕ) (r : Quick) : Type 0 where
  pub served : r ≡ Served → live_call_row c s (in_bytes_lem codes) (in_bytes_lem transitions) state room ≡ 0
  pub made : r ≡ Served → (q : ℕ) → state' ≡ effect c q (words_in codes) (words_in transitions) state
  pub refused : r ≡ Refused → live_call_row c s (in_bytes_lem codes) (in_bytes_lem transitions) state room ≡ 15
  pub taken_back : r ≡ Refused → state' ≡ state
  pub untried : r ≡ Untried → state' ≡ state
