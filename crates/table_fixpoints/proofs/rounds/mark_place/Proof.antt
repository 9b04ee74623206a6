-- `table_fixpoints::rounds::mark_place` meets its contract.
use mathlib.Core.Path.{◌≡◌}
use mathlib.Core.List.{[]}
use Prim.Native.Nat.{◌*◌}
use native.Mathlib.Omega.{arith}
use borrow.Author.Rules.{rules}
use lib.ListN.{length}
use Rattle.theory.specs.Word.{next_place_lem, letter_at_lem}
use Rattle.table_fixpoints_spec.proofs.Places.{place-room, there-last, there-other, ends-fit}
use Rattle.table_fixpoints_spec.proofs.Loops.{all_same}
use Rattle.table_fixpoints.proofs.rounds.mark_place.Statement.{statement}
use Rattle.table_fixpoints.proofs.rounds.mark_place.Lts.{else-p-cycle, then-p-cycle}
use Rattle.table_fixpoints.proofs.rounds.mark_place.Tie as tie

mul-here : tie.Need-overflow_mul-here
mul-here c = let start : tie.Start = search in let a = start.args in let pre = start.requires in omega (arith, place-room a.n a.p (length a.cycle.now) pre.1, pre.0.marked)

add-there : tie.Need-overflow_add-there
add-there c = let start : tie.Start = search in let a = start.args in let pre = start.requires in omega (arith, place-room a.n a.p (length a.cycle.now) pre.1, pre.0.marked)

-- the nodes of the place that follows begin there
follows : (c : tie.Joined-p-cycle) → let start : tie.Start = search in
    let a = start.args in c.if-p-cycle.there ≡ next_place_lem [] a.cycle.now a.p * a.n
follows c = let start : tie.Start = search in let a = start.args in elim c.if-p-cycle.branch [
  | then-p-cycle w ↦ let first = there-last a.cycle.now a.p a.n w.if-p-cycle.true in omega arith
  | else-p-cycle w ↦ let next = there-other a.cycle.now a.p a.n w.if-p-cycle.false in omega arith
]

mark-all-requires : tie.Need-mark_all-requires
mark-all-requires c κs = let start : tie.Start = search in λ t m. let q = ends-fit start.requires.0 start.args.p start.requires.1 t m in (q.0, rw (follows (search)) q.1)

returns : tie.Need-returns
unfolding letter_at_lem
returns c = let at-mark-all : tie.After-mark_all = search in all_same _ _ _ _ _ _ _ _ (follows (search)) at-mark-all.mark_all.ensures

pub mark_place_spec : {M : Type 1} → statement M
mark_place_spec = tie.close (tie.spec
    mul-here add-there (λ c. search rules) (λ c. search rules)
    (λ c. let start : tie.Start = search in omega (arith, c.shared_slice_known-4-1.given start.args.p)) mark-all-requires
    (λ c. search rules) returns)
