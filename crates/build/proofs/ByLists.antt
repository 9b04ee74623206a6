-- Two lists of the macrostates that are reached and of their transitions are those that are computed, so any such lists decide the answer and the
-- slices.
use mathlib.Core.Path.{◌≡◌, refl, sym, ◌∙◌, ap, ap₂, subst}
use mathlib.Core.Logic.{by_cases}
use mathlib.Core.List.{List}
use Prim.Native.Nat.{ℕ, zero, suc, ◌≤◌}
use native.Mathlib.Omega.{arith}
use native.Mathlib.Decide.{dec_lt}
use lib.ListN.{length}
use Rattle.std.specs.Prelude.{Result, Ok, Err}
use Rattle.refusals.specs.declared.Refusal.{Refusal}
use Rattle.build.specs.declared.Counts.{Counts}
use Rattle.sets.specs.Tests.{Set}
use Rattle.theory.specs.Passing.{Passing}
use Rattle.theory.specs.Rule.{Rule}
use Rattle.theory.specs.Table.{ListsFrom}
use Rattle.theory.specs.TableComputed.{macrostates_from, transitions_from}
use Rattle.theory_laws.proofs.Lists.{codes-once, moves-once, lists-exist}
use Rattle.theory_laws.proofs.Tables.{lists-from}
use Rattle.build_lists.proofs.Room.{room-cap}
use Rattle.build.specs.Built.{room_row, built_by, room_after}
use Rattle.build.specs.Filling.{Filled, Made}
use Rattle.build.proofs.RoomRows.{row-codes, room-few}

module _ (r : Rule) (P : Passing r) {start : Set} (codes moves : List ℕ) (L : ListsFrom r start codes moves) where
  pub codes_same : codes ≡ macrostates_from r start
  codes_same = codes-once L (lists-exist r P start).1

  pub moves-same : length (macrostates_from r start) ≤ 65536 → moves ≡ transitions_from r start
  moves-same few = moves-once L (lists-from r P start few)

  -- rows 17 and 18: more macrostates than any room are refused by the codes alone
  pub row_same : (cl ml : ℕ) → room_row codes moves cl ml ≡ room_row (macrostates_from r start) (transitions_from r start) cl ml
  row_same cl ml = by_cases (dec_lt 65536 (length (macrostates_from r start)))
      (λ big. let cap = room-cap 65536 cl in
      row-codes codes moves cl ml (omega (arith, ap length codes_same)) ∙ sym (row-codes (macrostates_from r start) (transitions_from r start) cl ml (omega arith)))
      (λ few. ap₂ (λ (x y : List ℕ). room_row x y cl ml) codes_same (moves-same (omega arith)))

-- the lists matter only where no row refuses
pub filled-same : (row : ℕ) (codes moves cs ts xs zs : List ℕ) (b : Result Counts Refusal) (ys ws : List ℕ) → (row ≡ 0 → (codes ≡ cs) × (moves ≡ ts))
    → Filled row cs ts xs zs b ys ws → Filled row codes moves xs zs b ys ws
unfolding built_by room_after
filled-same zero codes moves cs ts xs zs b ys ws same F = let e = same refl in rw (e.0, e.1) F
filled-same (suc k) codes moves cs ts xs zs b ys ws same F = record { answer = F.answer; codes_after = F.codes_after; moves_after = F.moves_after }

pub made-by-lists : (r : Rule) (P : Passing r) (start : Set) (codes moves : List ℕ) → ListsFrom r start codes moves → (xs zs : List ℕ) (b : Result Counts Refusal) (ys ws : List ℕ)
    → Made (macrostates_from r start) (transitions_from r start) xs zs b ys ws → Made codes moves xs zs b ys ws
made-by-lists r P start codes moves L xs zs b ys ws M =
    subst (λ (k : ℕ). Filled k codes moves xs zs b ys ws) (sym (row_same r P codes moves L (length xs) (length zs)))
    (filled-same _ codes moves (macrostates_from r start) (transitions_from r start) xs zs b ys ws
    (λ e. (codes_same r P codes moves L, moves-same r P codes moves L (room-few (macrostates_from r start) (transitions_from r start) (length xs) (length zs) e))) M)
