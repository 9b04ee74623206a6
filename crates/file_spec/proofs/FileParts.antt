-- The parts of a file as slices of it.
use Prim.Native.Nat.{ℕ, ◌+◌, ◌-◌, ◌≤◌}
use mathlib.Core.Path.{◌≡◌}
use mathlib.Core.List.{List}
use native.Mathlib.Omega.{arith}
use lib.ListN.{length, take, drop, length-take, length-drop}
use Rattle.file_spec.specs.File.{clause_count, entry_count, clauses_at, clauses_of_lem, counts_of_lem}

module _ (f : List ℕ) (fits : clause_count f + entry_count f ≤ length f - 8) where
  pub clauses-part : take (clauses_at f + clause_count f - clauses_at f) (drop (clauses_at f) f) ≡ clauses_of_lem f
  clauses-part = unfold clauses_of_lem in let e : clauses_at f + clause_count f - clauses_at f ≡ clause_count f = omega arith in rw e

  pub counts-part : take (length f - 8 - (clauses_at f + clause_count f)) (drop (clauses_at f + clause_count f) f) ≡ counts_of_lem f
  counts-part = unfold counts_of_lem in let e : length f - 8 - (clauses_at f + clause_count f) ≡ entry_count f = omega arith in rw e

  pub clauses-length : length (clauses_of_lem f) ≡ clause_count f
  clauses-length = unfold clauses_of_lem in simp (length-take, length-drop) (omega arith)

  pub counts-length : length (counts_of_lem f) ≡ entry_count f
  counts-length = unfold counts_of_lem in simp (length-take, length-drop) (omega arith)
