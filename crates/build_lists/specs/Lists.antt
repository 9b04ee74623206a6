-- What the two lists of the build leave in a slice.
use Rattle.std.specs.Prelude.{◌≡◌, Bool, true, false, List, ◌++◌, ℕ, ◌-◌, ◌≤◌, ◌<◌, length, take, replicate}
use Rattle.theory.specs.Rule.{Rule}
use Rattle.theory.specs.TableComputed.{macrostates_from}
use Rattle.build_spec.specs.Keys.{start_of}
use Rattle.build_lists.specs.Room.{room_of_lem}

-- the slice xs is now ys, the list l and zeros after it, m the length of the list; or l is longer than the room of xs
pub record Padded (cap : ℕ) (l xs ys : List ℕ) (m : ℕ) (full : Bool) : Type 0 where
  pub long : length ys ≡ length xs
  pub fits : full ≡ false → length l ≤ room_of_lem cap (length xs)
  pub count : full ≡ false → m ≡ length l
  pub written : full ≡ false → ys ≡ l ++ replicate (length xs - length l) 0
  pub crowded : full ≡ true → room_of_lem cap (length xs) < length l

-- the first n codes are those of the reachable macrostates
pub record Codes (r : Rule) (holds : Bool) (codes : List ℕ) (n : ℕ) : Type 0 where
  pub fits : n ≤ length codes
  pub few : n ≤ 65536
  pub listed : take n codes ≡ macrostates_from r (start_of r holds)
