-- Demand 3, "any rule of one to eight states that passes every check, and any lent slices with room":
-- "Then the build is not refused for room and leaves exactly these there."
use Prim.Native.Nat.{ℕ, ◌-◌, ◌≤◌}
use mathlib.Core.Path.{◌≡◌, ◌∙◌}
use mathlib.Core.Bool.{false}
use mathlib.Core.List.{List, ◌++◌}
use lib.ListN.{length, replicate}
use Rattle.std.specs.Prelude.{Result, Ok, Err}
use Rattle.refusals.specs.declared.Refusal.{Refusal}
use Rattle.theory.specs.Rule.{Rule}
use Rattle.theory.specs.Macrostate.{holds_initial}
use Rattle.theory.specs.Passing.{Passing}
use Rattle.theory.specs.TableComputed.{macrostates, transitions}
use Rattle.refusals.specs.Rows.{first_row}
use Rattle.file_spec.specs.File.{rule_in, body_of}
use Rattle.file_spec.specs.Rows.{preface_rows}
use Rattle.file_spec.specs.RuleRows.{some_nested}
use Rattle.file_read.proofs.Layouts.{layout-accepted}
use Rattle.build_lists.specs.Room.{codes_room, transitions_room}
use Rattle.build.specs.Built.{built_by, room_after, slice_after, built_from, codes_after_from, transitions_after_from, build_row, built_of, codes_after_lem, transitions_after_lem}
use Rattle.build.proofs.RoomRows.{row_fits}
use Rattle.build.proofs.Answer.{build-row}

-- where no row refuses, of a file that is read as the rule r
module _ (row : ℕ) (t r : Rule) (none : row ≡ 0) (same : t ≡ r) where
  counted : built_by row (macrostates t) (transitions t) ≡ Ok (record { macrostates = length (macrostates r); transitions = length (transitions r) })
  unfolding built_by
  counted = rw (none, same)

  codes-there : (xs : List ℕ) → slice_after row (macrostates t) xs ≡ macrostates r ++ replicate (length xs - length (macrostates r)) 0
  unfolding room_after
  codes-there xs = rw (none, same)

  moves_there : (zs : List ℕ) → slice_after row (transitions t) zs ≡ transitions r ++ replicate (length zs - length (transitions r)) 0
  unfolding room_after
  moves_there zs = rw (none, same)

module _ (r : Rule) (P : Passing r) (apart : some_nested r ≡ false) (p : List ℕ) (named : first_row (preface_rows r.s p) ≡ 0) (xs zs : List ℕ)
    (codes-fit : length (macrostates r) ≤ codes_room (length xs)) (moves-fit : length (transitions r) ≤ transitions_room (length zs)) where
  -- no row refuses the file of the rule
  unrefused : build_row (p ++ body_of r) (length xs) (length zs) ≡ 0
  unrefused = let a = layout-accepted r P apart p named in
      build-row holds_initial (p ++ body_of r) xs zs a.0 ∙ rw a.1 (row_fits (macrostates r) (transitions r) (length xs) (length zs) codes-fit moves-fit)

  -- the file of the rule, after any preface p whose names are not refused, is built: the counts and both lists, and zeros after them
  pub built-with-room : (built_of (p ++ body_of r) (length xs) (length zs) ≡ Ok (record { macrostates = length (macrostates r); transitions = length (transitions r) }))
      × (codes_after_lem (p ++ body_of r) xs (length zs) ≡ macrostates r ++ replicate (length xs - length (macrostates r)) 0)
      × (transitions_after_lem (p ++ body_of r) (length xs) zs ≡ transitions r ++ replicate (length zs - length (transitions r)) 0)
  unfolding built_from codes_after_from transitions_after_from
  built-with-room =
      let e = (layout-accepted r P apart p named).1 in
      let k = build_row (p ++ body_of r) (length xs) (length zs) in
      (counted k (rule_in (p ++ body_of r)) r unrefused e, codes-there k (rule_in (p ++ body_of r)) r unrefused e xs, moves_there k (rule_in (p ++ body_of r)) r unrefused e zs)
