-- Any lists of the macrostates and transitions of the two tables decide the answer and all slices: they are the computed ones, or a row refuses both alike.
use mathlib.Core.Path.{◌≡◌, refl, sym, ◌∙◌, ap₂, subst}
use mathlib.Core.Bool.{true}
use mathlib.Core.List.{List, ◌++◌}
use Prim.Native.Nat.{ℕ, zero, suc, ◌*◌}
use lib.ListN.{length}
use Rattle.std.specs.Prelude.{Result, Ok, Err, ⊤}
use native.Mathlib.Omega.{arith}
use Rattle.refusals.specs.Rows.{Check, number_of, first_refusal, first_row}
use Rattle.refusals.specs.declared.Refusal.{Refusal}
use Rattle.refusals.proofs.Rows.{numbered, number-above, refusal_and, refusal-same, row-passes, first-parts}
use Rattle.theory.specs.Passing.{Passing}
use Rattle.theory.specs.Rule.{Rule}
use Rattle.theory.specs.Table.{ListsReachable}
use Rattle.theory.specs.TableComputed.{macrostates, transitions}
use Rattle.rejecting_spec.specs.Rejecting.{ListsRejecting}
use Rattle.rejecting_spec.specs.RejectingComputed.{rejecting_macrostates, rejecting_transitions}
use Rattle.build.specs.Built.{room_row, room_rows, room_after}
use Rattle.build.proofs.RoomRows.{room-few}
use Rattle.build.proofs.ByLists.{codes_same, moves-same, row_same}
use Rattle.stricter_entry_spec.specs.declared.Comparison.{Comparison}
use Rattle.stricter_entry_spec.specs.Rows.{Slices, Tables, tables_of, pairs, alphabet_rows, both_room_rows, pair_rows, rules_rows, zeroes_rooms}
use Rattle.stricter_entry_spec.specs.Compared.{ComparedBy}
use Rattle.stricter.specs.Steps.{row_of_lem, ByRow}
use Rattle.stricter.proofs.Rooms.{numbered-room}

-- ---- rows

append-same : (xs zs ys ws : List Check) → first_refusal xs ≡ first_refusal zs → first_refusal ys ≡ first_refusal ws → first_refusal (xs ++ ys) ≡ first_refusal (zs ++ ws)
append-same xs zs ys ws e f = rw (refusal_and xs ys, refusal_and zs ws, e, f)

tables-numbered : (tables : Tables) (lent : Slices) → numbered (both_room_rows tables lent) ≡ true
unfolding numbered both_room_rows room_rows
tables-numbered tables lent = refl

letters-numbered : (a b : Rule) → numbered (alphabet_rows a b) ≡ true
unfolding numbered alphabet_rows
letters-numbered a b = refl

-- where no row refuses, both tables have room
pub both-rows : (a b : Rule) (lent : Slices) → first_row (rules_rows a b (tables_of a b) lent) ≡ 0
    → (room_row (macrostates a) (transitions a) (length lent.codes_a) (length lent.transitions_a) ≡ 0)
    × (room_row (rejecting_macrostates b) (rejecting_transitions b) (length lent.codes_b) (length lent.transitions_b) ≡ 0)
unfolding rules_rows both_room_rows room_row
both-rows a b lent e =
    let x = first-parts (alphabet_rows a b) _ (letters-numbered a b) e in
    let y = first-parts (both_room_rows (tables_of a b) lent) (pair_rows (tables_of a b) lent) (tables-numbered (tables_of a b) lent) x.1 in
    first-parts (room_rows (macrostates a) (transitions a) (length lent.codes_a) (length lent.transitions_a)) _ (numbered-room _ _ _ _) y.0

-- ---- a row that refuses

room-other : (r : Refusal) (k : ℕ) → number_of r ≡ k → (list other lent : List ℕ) → room_after zeroes_rooms k list lent ≡ room_after zeroes_rooms k other lent
unfolding room_after
room-other r zero e list other lent = let n = number-above r in absurd (omega arith)
room-other r (suc k) e list other lent = refl

-- the tables do not matter where a row refuses
by_others : {a b : Rule} {tables : Tables} (others : Tables) (refused : Result ⊤ Refusal) → (refused ≡ Ok tt → tables ≡ others) → {lent : Slices}
    {answer : Result Comparison Refusal} {left : Slices} → ComparedBy a b tables refused lent answer left → ComparedBy a b others refused lent answer left
by_others {a} {b} others (Ok u) same {lent} {answer} {left} C = subst (λ (t : Tables). ComparedBy a b t (Ok u) lent answer left) (same refl) C
by_others {tables = tables} others (Err r) same {lent} C = record {
  told = C.told;
  codes_a_after = C.codes_a_after ∙ room-other r (number_of r) refl tables.codes_a others.codes_a lent.codes_a;
  transitions_a_after = C.transitions_a_after ∙ room-other r (number_of r) refl tables.transitions_a others.transitions_a lent.transitions_a;
  codes_b_after = C.codes_b_after ∙ room-other r (number_of r) refl tables.codes_b others.codes_b lent.codes_b;
  transitions_b_after = C.transitions_b_after ∙ room-other r (number_of r) refl tables.transitions_b others.transitions_b lent.transitions_b;
  scratch_after = C.scratch_after;
}

-- ---- lists of the two tables

module _ {a b : Rule} (P : Passing a) (Q : Passing b) (tables : Tables) (L : ListsReachable a tables.codes_a tables.transitions_a)
    (M : ListsRejecting b tables.codes_b tables.transitions_b) (lent : Slices) where
  codes_a : tables.codes_a ≡ macrostates a
  codes_a = codes_same a P tables.codes_a tables.transitions_a L

  codes_b : tables.codes_b ≡ rejecting_macrostates b
  codes_b = codes_same b Q tables.codes_b tables.transitions_b M

  rows-tables : first_refusal (both_room_rows tables lent) ≡ first_refusal (both_room_rows (tables_of a b) lent)
  unfolding both_room_rows room_row
  rows-tables =
      append-same _ _ _ _
      (refusal-same _ _ (row_same a P tables.codes_a tables.transitions_a L (length lent.codes_a) (length lent.transitions_a)))
      (refusal-same _ _ (row_same b Q tables.codes_b tables.transitions_b M (length lent.codes_b) (length lent.transitions_b)))

  same-pairs : pairs tables ≡ pairs (tables_of a b)
  unfolding pairs
  same-pairs = ap₂ (λ (x y : List ℕ). length x * length y) codes_a codes_b

  rows-pairs : first_refusal (pair_rows tables lent) ≡ first_refusal (pair_rows (tables_of a b) lent)
  unfolding pair_rows
  rows-pairs = rw same-pairs

  rows_same : first_refusal (rules_rows a b tables lent) ≡ row_of_lem a b lent
  unfolding rules_rows
  rows_same =
      append-same (alphabet_rows a b) (alphabet_rows a b) _ _ refl
      (append-same (both_room_rows tables lent) (both_room_rows (tables_of a b) lent) (pair_rows tables lent) (pair_rows (tables_of a b) lent) rows-tables rows-pairs)

  tables-same : row_of_lem a b lent ≡ Ok tt → tables_of a b ≡ tables
  tables-same e =
      let r = both-rows a b lent (row-passes _ e) in
      let ma = moves-same a P tables.codes_a tables.transitions_a L (room-few (macrostates a) (transitions a) (length lent.codes_a) (length lent.transitions_a) r.0) in
      let mb = moves-same b Q tables.codes_b tables.transitions_b M
      (room-few (rejecting_macrostates b) (rejecting_transitions b) (length lent.codes_b) (length lent.transitions_b) r.1) in
      sym (ap₂ (λ (x y : List ℕ). record { codes_a = x; transitions_a = y; codes_b = tables.codes_b; transitions_b = tables.transitions_b }) codes_a ma
      ∙ ap₂ (λ (x y : List ℕ). record { codes_a = macrostates a; transitions_a = transitions a; codes_b = x; transitions_b = y }) codes_b mb)

  pub compared-by-lists : (answer : Result Comparison Refusal) (left : Slices) → ByRow a b (row_of_lem a b lent) lent answer left
      → ComparedBy a b tables (first_refusal (rules_rows a b tables lent)) lent answer left
  compared-by-lists answer left C =
      subst (λ (k : Result ⊤ Refusal). ComparedBy a b tables k lent answer left) (sym rows_same) (by_others tables (row_of_lem a b lent) tables-same C)
