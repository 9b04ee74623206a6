-- The comparison on two files: the rows of the rules before those of the comparison.
use mathlib.Core.Path.{◌≡◌, sym, ◌∙◌}
use mathlib.Core.List.{List, ◌++◌}
use Prim.Native.Nat.{ℕ}
use lib.ListN.{length}
use Rattle.std.specs.Prelude.{Result, Err}
use Rattle.refusals.specs.Rows.{Check, number_of, first_refusal}
use Rattle.refusals.specs.declared.Refusal.{Refusal}
use Rattle.refusals.proofs.Rows.{refusal-left, refusal-right, refusal-passes, first-parts}
use Rattle.theory.specs.Rule.{Rule}
use Rattle.theory.specs.Table.{ListsReachable}
use Rattle.theory.specs.TableComputed.{macrostates, transitions}
use Rattle.theory_laws.proofs.Tables.{lists-reachable}
use Rattle.rejecting_spec.specs.Rejecting.{ListsRejecting}
use Rattle.rejecting_spec.specs.RejectingComputed.{rejecting_macrostates, rejecting_transitions}
use Rattle.theory_laws.proofs.RejectingDemand.{lists-rejecting}
use Rattle.file_spec.specs.File.{rule_in}
use Rattle.file_spec.specs.Rows.{file_row, file_rows_lem}
use Rattle.file_read.proofs.FileRows.{file-numbered, accepted-passing}
use Rattle.build.specs.Built.{room_row}
use Rattle.build.proofs.RoomRows.{room-few}
use Rattle.stricter_entry_spec.specs.declared.Comparison.{Comparison}
use Rattle.stricter_entry_spec.specs.Rows.{Slices, tables_of, rules_rows, stricter_rows, stricter_row}
use Rattle.stricter_entry_spec.specs.Compared.{Compared}
use Rattle.stricter.specs.Steps.{row_of_lem, ByRow}
use Rattle.stricter.proofs.Rooms.{by_row, refused-kept, file-keeps}
use Rattle.stricter.proofs.Lists.{both-rows, compared-by-lists}

module _ (f g : List ℕ) (lent : Slices) where
  abbrev a : Rule
  a = rule_in f

  abbrev b : Rule
  b = rule_in g

  abbrev rest : List Check
  rest = rules_rows a b (tables_of a b) lent

  -- what a row of 0 says of the rows
  record Passed : Type 0 where
    first : file_row f ≡ 0
    second : file_row g ≡ 0
    own : room_row (macrostates a) (transitions a) (length lent.codes_a) (length lent.transitions_a) ≡ 0
    other : room_row (rejecting_macrostates b) (rejecting_transitions b) (length lent.codes_b) (length lent.transitions_b) ≡ 0

  passed : stricter_row f g lent ≡ 0 → Passed
  unfolding stricter_row file_row
  passed e =
      let x = first-parts (file_rows_lem f) (file_rows_lem g ++ rest) (file-numbered f) e in
      let y = first-parts (file_rows_lem g) rest (file-numbered g) x.1 in
      let v = both-rows a b lent y.1 in
      record { first = x.0; second = y.0; own = v.0; other = v.1 }

  lists-of-a : stricter_row f g lent ≡ 0 → ListsReachable a (macrostates a) (transitions a)
  lists-of-a e = let h = passed e in lists-reachable a (accepted-passing f h.first) (room-few (macrostates a) (transitions a) (length lent.codes_a) (length lent.transitions_a) h.own)

  lists-of-b : stricter_row f g lent ≡ 0 → ListsRejecting b (rejecting_macrostates b) (rejecting_transitions b)
  lists-of-b e = let h = passed e in lists-rejecting b (accepted-passing g h.second)
      (room-few (rejecting_macrostates b) (rejecting_transitions b) (length lent.codes_b) (length lent.transitions_b) h.other)

  -- a row of a rule refuses: nothing is said of lists
  turned-away : (r : Refusal) → ((file_row f ≡ 0) × (file_row g ≡ 0) → ⊥) → ByRow a b (first_refusal (stricter_rows f g lent)) lent (Err r) lent → Compared f g lent (Err r) lent
  turned-away r n C = record { by_row = C; by_lists = λ x y. absurd (n (x, y)); lists_a = lists-of-a; lists_b = lists-of-b }

  -- a row of A's rule refuses
  pub first-refused : {r : Refusal} → (first_refusal (file_rows_lem f) ≡ Err r) × (file_row f ≡ number_of r) × (file_row f ≡ 0 → ⊥) → Compared f g lent (Err r) lent
  first-refused {r} e =
      turned-away r (λ z. e.2 z.0) (refused-kept (refusal-left (file_rows_lem f) (file_rows_lem g ++ rest) r e.0) (rw e.1 at (file-keeps f)))

  -- a row of B's
  pub second-refused : file_row f ≡ 0 → {r : Refusal} → (first_refusal (file_rows_lem g) ≡ Err r) × (file_row g ≡ number_of r) × (file_row g ≡ 0 → ⊥) → Compared f g lent (Err r) lent
  unfolding file_row
  second-refused z {r} e =
      turned-away r (λ y. e.2 y.1)
      (refused-kept (refusal-right (file_rows_lem f) (file_rows_lem g ++ rest) (refusal-passes (file_rows_lem f) z) ∙ refusal-left (file_rows_lem g) rest r e.0) (rw e.1 at (file-keeps g)))

  row_is : file_row f ≡ 0 → file_row g ≡ 0 → row_of_lem a b lent ≡ first_refusal (stricter_rows f g lent)
  unfolding file_row
  row_is z y = sym (refusal-right (file_rows_lem f) (file_rows_lem g ++ rest) (refusal-passes (file_rows_lem f) z)
      ∙ refusal-right (file_rows_lem g) rest (refusal-passes (file_rows_lem g) y))

  -- none does
  pub both_read : file_row f ≡ 0 → file_row g ≡ 0 → (answer : Result Comparison Refusal) (left : Slices) → ByRow a b (row_of_lem a b lent) lent answer left → Compared f g lent answer left
  both_read z y answer left C = record {
    by_row = by_row (row_is z y) C;
    by_lists = λ _ _ tables L M. compared-by-lists (accepted-passing f z) (accepted-passing g y) tables L M lent answer left C;
    lists_a = lists-of-a;
    lists_b = lists-of-b;
  }
