-- The answer and the two slices by rows 17 and 18.
use mathlib.Core.Path.{◌≡◌, refl, ◌∙◌, ap, ap₂}
use mathlib.Core.Bool.{Bool, true, false}
use mathlib.Core.List.{List}
use Prim.Native.Nat.{ℕ, ◌-◌}
use native.Mathlib.Omega.{arith}
use lib.ListN.{length, take, replicate}
use lib.Seq.{take-append_seam}
use Rattle.std.specs.Prelude.{Result, Ok, Err}
use Rattle.refusals.specs.declared.Refusal.{Refusal}
use Rattle.build.specs.declared.Counts.{Counts}
use Rattle.refusals.specs.declared.Refusal.TheVariants.{MacrostateRoom, TransitionRoom}
use Rattle.theory.specs.Rule.{Rule}
use Rattle.theory.specs.TableComputed.{macrostates_from}
use Rattle.refusals.specs.Rows.{refusal_at}
use Rattle.build_spec.specs.Keys.{start_of}
use Rattle.build.specs.Built.{room_row, built_by, room_after, slice_after}
use Rattle.build_lists.specs.Lists.{Padded, Codes}
use Rattle.build.specs.Filling.{Made}
use Rattle.build.proofs.RoomRows.{row-codes, row-moves, row_fits}
use Rattle.build_lists.proofs.Room.{room-cap, room-len}

module _ {codes moves xs zs : List ℕ} where
  -- by the row
  by_row : (k : ℕ) → room_row codes moves (length xs) (length zs) ≡ k → {b : Result Counts Refusal} {ys ws : List ℕ} → b ≡ built_by k codes moves → ys ≡ slice_after k codes xs → ws ≡ slice_after k moves zs →
      Made codes moves xs zs b ys ws
  by_row k e p q s = record { answer = rw e p; codes_after = rw e q; moves_after = rw e s }

  -- 17
  pub made-17 : {mid ys ws : List ℕ} {m : ℕ} {full : Bool} → full ≡ true → Padded 65536 codes xs mid m full → ys ≡ replicate (length mid) 0 → ws ≡ replicate (length zs) 0 →
      Made codes moves xs zs (Err MacrostateRoom) ys ws
  unfolding built_by refusal_at room_after
  made-17 t P y w = by_row 17 (row-codes codes moves (length xs) (length zs) (P.crowded t)) refl (y ∙ ap (λ (k : ℕ). replicate k 0) P.long) w

  module _ {mid mid' : List ℕ} {m m' : ℕ} {full full' : Bool} (P : Padded 65536 codes xs mid m full) (P' : Padded 1048576 moves zs mid' m' full') (t : full ≡ false) where
    -- 18
    pub made-18 : {ys ws : List ℕ} → full' ≡ true → ys ≡ replicate (length mid) 0 → ws ≡ replicate (length mid') 0 → Made codes moves xs zs (Err TransitionRoom) ys ws
    unfolding built_by refusal_at room_after
    made-18 t' y w = by_row 18 (row-moves codes moves (length xs) (length zs) (P.fits t) (P'.crowded t')) refl (y ∙ ap (λ (k : ℕ). replicate k 0) P.long)
        (w ∙ ap (λ (k : ℕ). replicate k 0) P'.long)

    -- both have room: a and b are the counts that are answered
    pub made_table : full' ≡ false → {a b : ℕ} → a ≡ m → b ≡ m' → Made codes moves xs zs (Ok (record { macrostates = a; transitions = b })) mid mid'
    unfolding built_by room_after
    made_table t' e e' = by_row 0 (row_fits codes moves (length xs) (length zs) (P.fits t) (P'.fits t'))
        (ap₂ (λ (a b : ℕ). Ok (record { macrostates = a; transitions = b })) (e ∙ P.count t) (e' ∙ P'.count t')) (P.written t) (P'.written t')

-- what is written is what the transitions are listed from
pub codes-listed : (r : Rule) (holds : Bool) {xs ys : List ℕ} {m : ℕ} {full : Bool} → full ≡ false → Padded 65536 (macrostates_from r (start_of r holds)) xs ys m full → Codes r holds ys m
codes-listed r holds {xs} t P =
    let l = macrostates_from r (start_of r holds) in let a = room-cap 65536 (length xs) in let b = room-len 65536 (length xs) in
    let c = P.count t in let h = P.fits t in let g = P.long in
    record {
      fits = omega arith;
      few = omega arith;
      listed = ap₂ (λ (k : ℕ) (z : List ℕ). take k z) c (P.written t) ∙ take-append_seam l (replicate (length xs - length l) 0);
    }
