-- `table_fixpoints::fixpoints::prune_place` meets its contract: nodes at a place without an edge to a node that is in go out.
use Prim.Native.Nat.{◌+◌, ◌*◌, ◌≤◌}
use native.Mathlib.Omega.{arith}
use borrow.Author.Rules.{rules}
use lib.ListN.{length}
use Rattle.table_fixpoints_spec.proofs.Places.{place-room, at_long}
use Rattle.table_fixpoints_spec.proofs.Pruning.{prune-at}
use Rattle.table_fixpoints.proofs.fixpoints.prune_place.Statement.{statement}
use Rattle.table_fixpoints.proofs.fixpoints.prune_place.Tie as tie

abbrev start_of : tie.After-settle-arg-1 → tie.Start
start_of c = search

-- the nodes of a place have marks
room : (c : tie.After-settle-arg-1) → let a = (start_of c).args in a.p * a.n + a.n ≤ length a.marks.now
room c = let a = (start_of c).args in let pre = (start_of c).requires in omega (arith, place-room a.n a.p (length a.cycle.now) pre.2, pre.0.marked)

settle-requires : tie.Need-settle-requires
settle-requires c κs = let at-mark-place : tie.After-mark_place = search in let long = at_long _ _ _ _ _ _ at-mark-place.mark_place.ensures.0 in (omega arith, omega (arith, room c))

returns : tie.Need-returns
returns c =
    let start : tie.Start = search in let a = start.args in let pre = start.requires in let at-mark-place : tie.After-mark_place = search in let mid = at-mark-place.mark_place.ensures.0 in
    let at-settle : tie.After-settle = search in prune-at a.p pre.0 pre.1 pre.2 (rw mid at at-settle.settle.ensures)

pub prune_place_spec : {M : Type 1} → statement M
prune_place_spec = tie.close (tie.spec
    (λ c κs. search rules) (λ c. omega (arith, room c)) (λ c. omega (arith, room c)) (λ c. omega (arith, room c)) settle-requires (λ c. search rules)
    returns)
