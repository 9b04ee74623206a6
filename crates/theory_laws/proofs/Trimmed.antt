-- The trimmed table of a rule that passes the checks.
use mathlib.Core.Path.{◌≡◌}
use mathlib.Core.Logic.{◌↔◌}
use mathlib.Core.List.{List, []}
use Prim.Native.Nat.{ℕ, ◌≤◌}
use lib.ListN.{length, get_or}
use Rattle.theory.specs.Demand.{Demand3}
use Rattle.theory.specs.Macrostate.{holds_initial}
use Rattle.theory.specs.Passing.{Passing}
use Rattle.theory.specs.Plan.{AcceptsWord}
use Rattle.theory.specs.Rule.{Rule}
use Rattle.theory.specs.Run.{AcceptingRun}
use Rattle.theory.specs.TableComputed.{macrostates, transitions}
use Rattle.theory.specs.Word.{WordOver}
use Rattle.theory_laws.proofs.Demand.{demand3}
use Rattle.theory_laws.proofs.Tables.{lists-reachable}
use Rattle.trim_spec.specs.Matters.{ListsMattering, RunsSurvive}
use Rattle.trim_spec.specs.Trimmed.{live_marks, trimmed_codes, trimmed_transitions}
use Rattle.theory_laws.proofs.Sweeping.{live-solved}
use Rattle.theory_laws.proofs.Runs.{kept-room, kept-are, survives, comes-from, kept-demand3}
use Rattle.theory_laws.proofs.Empty.{empty-iff}

module _ (r : Rule) (P : Passing r) (room : length (macrostates r) ≤ 65536) where
  pub trimmed-room : length (trimmed_codes r) ≤ 65536
  unfolding trimmed_codes
  trimmed-room = kept-room r P (macrostates r) (transitions r) (lists-reachable r P room) room (live_marks (macrostates r) (transitions r)) (live-solved (macrostates r) (transitions r))

  -- the lists hold the reachable macrostates that matter and their transitions
  pub trimmed-lists : ListsMattering r (trimmed_codes r) (trimmed_transitions r)
  unfolding trimmed_codes trimmed_transitions
  trimmed-lists = kept-are r P (macrostates r) (transitions r) (lists-reachable r P room) room (live_marks (macrostates r) (transitions r)) (live-solved (macrostates r) (transitions r))

  -- demand 3 whole, of the trimmed table
  pub trimmed-demand3 : Demand3 r (trimmed_codes r) (trimmed_transitions r)
  unfolding trimmed_codes trimmed_transitions
  trimmed-demand3 = kept-demand3 r P (macrostates r) (transitions r) (lists-reachable r P room) room (live_marks (macrostates r) (transitions r)) (live-solved (macrostates r) (transitions r))
      (demand3 r P room)

  -- 02: "The one accepting run of each word must survive in the smaller table.": the same macrostates, by their new numbers
  pub run-survives : RunsSurvive r (macrostates r) (transitions r) (trimmed_codes r) (trimmed_transitions r)
  unfolding trimmed_codes trimmed_transitions
  run-survives = survives r P (macrostates r) (transitions r) (lists-reachable r P room) room (live_marks (macrostates r) (transitions r)) (live-solved (macrostates r) (transitions r))

  pub run-comes-from : (w y : ℕ → ℕ) → AcceptingRun (trimmed_codes r) (trimmed_transitions r) (holds_initial r) w y
      → (x : ℕ → ℕ) × AcceptingRun (macrostates r) (transitions r) (holds_initial r) w x × ((i : ℕ) → get_or (trimmed_codes r) (y i) 0 ≡ get_or (macrostates r) (x i) 0)
  unfolding trimmed_codes trimmed_transitions
  run-comes-from = comes-from r P (macrostates r) (transitions r) (lists-reachable r P room) room (live_marks (macrostates r) (transitions r)) (live-solved (macrostates r) (transitions r))

  -- 02: "A rule that accepts no word gives an empty table", and no other rule does
  pub trimmed-empty : (trimmed_codes r ≡ []) ↔ ((lead cycle : List ℕ) → WordOver r.s lead cycle → AcceptsWord r lead cycle → ⊥)
  trimmed-empty = empty-iff r P (macrostates r) (transitions r) (lists-reachable r P room) room (demand3 r P room) (trimmed_codes r) (trimmed_transitions r) trimmed-lists trimmed-demand3
