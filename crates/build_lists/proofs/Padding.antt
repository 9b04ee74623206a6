-- A list written at the start of a slice within its room, and zeros after it.
use mathlib.Core.Path.{◌≡◌, refl, sym, ◌∙◌, ap, ap₂}
use mathlib.Core.Bool.{Bool, true, false}
use mathlib.Core.List.{List, ◌++◌}
use Prim.Native.Nat.{ℕ, ◌+◌, ◌-◌, ◌≤◌, ◌<◌}
use native.Mathlib.Omega.{arith}
use lib.ListN.{length, take, drop, replicate, length-append, length-replicate}
use lib.Seq.{length-take-le, length_front, take-append-le}
use Rattle.sets.proofs.Bools.{clash}
use Rattle.slice_search.specs.Places.{zeroed_from}
use Rattle.build_lists.specs.Room.{room_of_lem}
use Rattle.build_lists.specs.Lists.{Padded}
use Rattle.build_lists.proofs.Room.{room-len}

module _ (cap room : ℕ) (xs ys : List ℕ) (is : room ≡ room_of_lem cap (length xs)) (long : length ys ≡ length (take room xs)) where
  -- the room as a part of the slice
  part : length (take room xs) ≡ room
  part = length-take-le room xs (let h = room-len cap (length xs) in omega arith)

  -- the slice after its part within the room was written
  pub whole : length (ys ++ drop room xs) ≡ length xs
  whole = length_front xs ys room long

  pub fits_whole : (m : ℕ) → m ≤ length ys → m ≤ length (ys ++ drop room xs)
  fits_whole m h = omega (arith, length-append ys (drop room xs))

  module _ (l : List ℕ) (m : ℕ) where
    -- more than room
    pub padded-full : (full : Bool) → full ≡ true → length (take room xs) < length l → Padded cap l xs (ys ++ drop room xs) m full
    padded-full full t h = record {
      long = whole;
      fits = λ f. clash t f;
      count = λ f. clash t f;
      written = λ f. clash t f;
      crowded = λ u. let k = part in omega arith;
    }

    module _ (fits : m ≤ length ys) (e : take m ys ≡ l) where
      size : length l ≡ m
      size = ap length (sym e) ∙ length-take-le m ys fits

      in-room : length l ≤ room_of_lem cap (length xs)
      in-room = let h = size in let k = part in omega (arith, long, fits)

      zeros-after : zeroed_from m (ys ++ drop room xs) ≡ l ++ replicate (length xs - length l) 0
      zeros-after = ap₂ (λ (a : List ℕ) (k : ℕ). a ++ replicate k 0) (take-append-le m ys (drop room xs) fits ∙ e)
          (ap₂ (λ (a b : ℕ). a - b) whole (sym size))

      in-slice : length l + (length xs - length l) ≡ length xs
      in-slice = let h = in-room in let k = room-len cap (length xs) in omega arith

      padded-length : length (l ++ replicate (length xs - length l) 0) ≡ length xs
      padded-length = length-append l (replicate (length xs - length l) 0) ∙ ap (λ (k : ℕ). length l + k) (length-replicate (length xs - length l) 0) ∙ in-slice

      -- within the room
      pub padded : (zs : List ℕ) → zs ≡ zeroed_from m (ys ++ drop room xs) → Padded cap l xs zs m false
      padded zs z = record {
        long = ap length (z ∙ zeros-after) ∙ padded-length;
        fits = λ f. in-room;
        count = λ f. sym size;
        written = λ f. z ∙ zeros-after;
        crowded = λ u. clash u refl;
      }
