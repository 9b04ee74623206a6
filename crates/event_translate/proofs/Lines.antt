-- A table that row 25 lets through has at most 64 lines.
use mathlib.Core.Path.{◌≡◌}
use mathlib.Core.Bool.{false, ◌||◌, not}
use mathlib.Core.List.{List}
use Prim.Native.Nat.{ℕ, ◌%◌, ◌≤◌}
use lib.Dec.{eqb, ltb}
use lib.ListN.{length}
use borrow.Author.Tests.{ltb-false}
use Rattle.sets.specs.Tests.{some_below}
use Rattle.sets.proofs.Bools.{or-fr}
use Rattle.event_spec.specs.Events.{line_count}
use Rattle.event_spec.specs.Translation.{faulty, faulty_table}

pub few-lines : (s : ℕ) (t : List ℕ) → faulty_table s t ≡ false → line_count t ≤ 64
unfolding faulty_table
few-lines s t e =
    let ragged = not (eqb (length t % 5) 0) in
    ltb-false 64 (line_count t) (or-fr ragged (ltb 64 (line_count t)) (or-fr (some_below (line_count t) (faulty s t)) (ragged || ltb 64 (line_count t)) e))
