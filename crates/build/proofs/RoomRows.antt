-- Rows 17 and 18, and what a slice holds after a row.
use mathlib.Core.Path.{◌≡◌, refl, ◌∙◌}
use mathlib.Core.Bool.{Bool, true, false}
use mathlib.Core.List.{List, [], ◌∷◌, ◌++◌}
use Prim.Native.Nat.{ℕ, zero, suc, ◌-◌, ◌≤◌, ◌<◌}
use native.Mathlib.Omega.{arith}
use lib.Dec.{ltb}
use lib.ListN.{length, replicate}
use borrow.Author.Tests.{ltb-false, lt-ltb, le-ltb}
use Rattle.refusals.specs.Rows.{first_row, check}
use Rattle.refusals.specs.declared.Refusal.TheVariants.{MacrostateRoom, TransitionRoom}
use Rattle.refusals.proofs.Rows.{row-yes, row-no, first-pass}
use Rattle.build_lists.specs.Room.{codes_room, transitions_room}
use Rattle.build.specs.Built.{room_rows, room_row, room_after}
use Rattle.build_lists.proofs.Room.{room-cap}

module _ (codes moves : List ℕ) (cl ml : ℕ) where
  -- 17: "more reachable macrostates than room"
  pub row-codes : codes_room cl < length codes → room_row codes moves cl ml ≡ 17
  unfolding room_row room_rows
  row-codes l = row-yes (check (ltb (codes_room cl) (length codes)) MacrostateRoom) _ (lt-ltb _ _ l)

  -- 18: "more transitions than room", where the macrostates have room
  pub row-moves : length codes ≤ codes_room cl → transitions_room ml < length moves → room_row codes moves cl ml ≡ 18
  unfolding room_row room_rows
  row-moves h l = row-no (check (ltb (codes_room cl) (length codes)) MacrostateRoom) _ (le-ltb _ _ h)
      ∙ row-yes (check (ltb (transitions_room ml) (length moves)) TransitionRoom) _ (lt-ltb _ _ l)

  -- both have room
  pub row_fits : length codes ≤ codes_room cl → length moves ≤ transitions_room ml → room_row codes moves cl ml ≡ 0
  unfolding room_row room_rows first_row
  row_fits h l =
      row-no (check (ltb (codes_room cl) (length codes)) MacrostateRoom) (check (ltb (transitions_room ml) (length moves)) TransitionRoom ∷ []) (le-ltb (codes_room cl) (length codes) h)
      ∙ row-no (check (ltb (transitions_room ml) (length moves)) TransitionRoom) [] (le-ltb (transitions_room ml) (length moves) l)

  -- no row refuses: at most 65,536 macrostates
  pub room-few : room_row codes moves cl ml ≡ 0 → length codes ≤ 65536
  unfolding room_row room_rows
  room-few e =
      let h = ltb-false (codes_room cl) (length codes) (first-pass (ltb (codes_room cl) (length codes)) _ _ e).0 in
      let k = room-cap 65536 cl in
      omega arith

-- ---- a slice after a row that zeroes it, after another, and after none

pub room-zeroed : (zeroes : ℕ → Bool) (k : ℕ) (list lent : List ℕ) → (k ≡ 0 → ⊥) → zeroes k ≡ true → room_after zeroes k list lent ≡ replicate (length lent) 0
unfolding room_after
room-zeroed zeroes zero list lent n e = absurd (n refl)
room-zeroed zeroes (suc k) list lent n e = rw e

pub room-kept : (zeroes : ℕ → Bool) (k : ℕ) (list lent : List ℕ) → (k ≡ 0 → ⊥) → zeroes k ≡ false → lent ≡ room_after zeroes k list lent
unfolding room_after
room-kept zeroes zero list lent n e = absurd (n refl)
room-kept zeroes (suc k) list lent n e = rw e

pub room-written : (zeroes : ℕ → Bool) (k : ℕ) (list lent : List ℕ) → k ≡ 0 → room_after zeroes k list lent ≡ list ++ replicate (length lent - length list) 0
unfolding room_after
room-written zeroes k list lent e = rw e
