-- `spread_row` meets its contract: a number of no core keeps its row of zeros; else one more pair takes its mark.
use Rattle.std.proofs.Common.{◌≡◌, ap₂, ◌∙◌, true, cond, ℕ, ◌+◌, ◌*◌, ltb, length, get_or, arith}
use native.Mathlib.Nat.{add_assoc}
use borrow.Author.Tests.{le-ltb, lt-ltb}
use Rattle.table_fixpoints_spec.proofs.Places.{place-room}
use Rattle.stricter_spec.specs.Tags.{core_number_lem}
use Rattle.stricter_spec.specs.Steps.{has_core}
use Rattle.stricter_marks.proofs.Rows.{moved-next, moved_out}
use Rattle.stricter_marks.proofs.spread.spread_row.Goals as goal

pub returns-then-acodes-core : goal.returns-then-acodes-core
unfolding has_core
returns-then-acodes-core c =
    moved_out c.args.acodes.now c.args.bcodes.now c.args.i c.requires.standing.2
    (le-ltb (core_number_lem (get_or c.args.acodes.now c.args.i 0)) (length c.args.acodes.now) (omega (arith, c.core_number-core.ensures)))

pub loop-j-preserved : goal.loop-j-preserved
unfolding has_core
loop-j-preserved c =
    let a = c.args.acodes.now in let b = c.args.bcodes.now in let i = c.args.i in let j = c.loop-j.j in let marks = c.loop-j.marks in
    let has : has_core a i ≡ true = lt-ltb (core_number_lem (get_or a i 0)) (length a) (omega (arith, c.core_number-core.ensures)) in
    rw (← add_assoc (i * length b) j 1)
    (moved-next a b c.requires.standing.0 c.requires.standing.1 i j c.requires.i_in_bounds.0 (omega arith) has _ (omega arith)
    (omega (arith, place-room (length b) i (length a) c.requires.i_in_bounds.0)) c.loop-j.invariant
    (c.mark_of.ensures ∙ ap₂ (λ (k r : ℕ). cond (ltb k (length b)) (get_or marks (r * length b + k) 0) 0) c.core_number.ensures c.core_number-core.ensures))
