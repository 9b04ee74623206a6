-- `take_edges` meets its contract: the edge line at place end follows those before.
use Rattle.std.proofs.Common.{[], ◌∷◌, ◌++◌, refl, length-append, arith}
use Rattle.hoa_laws.proofs.Edging.{edging-none, edges-no-line, edges-no-order, edging-next, edge-later, move-stored}
use Rattle.hoa_read_parts.proofs.take_edges.Goals as goal

pub loop-end-init : goal.loop-end-init
loop-end-init c = record { onward = omega arith; few = omega arith; edges = []; read = edging-none (omega arith); counted = omega arith; stored = refl }

pub returns-in_err-e : goal.returns-in_err-e
returns-in_err-e c = rw c.from_residual.ensures (edges-no-line c.loop-end.invariant.read (omega arith) c.if-text-end-ne91.false c.in_err-e.ensures refl refl)

pub returns-then-t-low : goal.returns-then-t-low
returns-then-t-low c =
    edges-no-order c.loop-end.invariant.read (omega arith) c.if-text-end-ne91.false c.in_ok-e.ensures.1 c.in_ok-e.ensures.0 c.if-t-low.true refl

pub loop-end-smaller : goal.loop-end-smaller
loop-end-smaller c = let E = c.in_ok-e.ensures in
    omega (arith, edge-later c.loop-end.invariant.read (omega arith) c.if-text-end-ne91.false E.1 E.0, (E.1.found E.0).1)

pub loop-end-preserved : goal.loop-end-preserved
loop-end-preserved c = let I = c.loop-end.invariant in let E = c.in_ok-e.ensures in let t = c.in_ok-e.e.value in
    let later = edge-later I.read (omega arith) c.if-text-end-ne91.false E.1 E.0 in record {
      onward = omega arith;
      few = omega arith;
      edges = I.edges ++ (t ∷ []);
      read = edging-next I.read (omega arith) c.if-text-end-ne91.false E.1 E.0 c.if-t-low.false;
      counted = omega (arith, length-append I.edges (t ∷ []));
      stored = move-stored c.args.transitions.now c.args.m I.edges c.loop-end.count t I.counted I.stored c.store_move.ensures;
    }
