-- `take_blocks` meets its contract: the state line and the edge lines of number i follow those before.
use Rattle.std.proofs.Common.{[], ◌++◌, refl, length-append, arith}
use Rattle.hoa_laws.proofs.Blocking.{blocking-none, blocks-no-state, blocks-no-edges, blocking-next, moves-stored}
use Rattle.hoa_read_parts.proofs.take_blocks.Goals as goal

pub loop-i-init : goal.loop-i-init
loop-i-init c = record { goes_on = omega arith; few = omega arith; moves = []; read = blocking-none (omega arith); counted = refl; stored = refl }

pub returns-in_err-s : goal.returns-in_err-s
returns-in_err-s c = rw c.from_residual.ensures (blocks-no-state c.loop-i.invariant.read (omega arith) c.in_err-s.ensures refl refl)

pub returns-in_err-e : goal.returns-in_err-e
returns-in_err-e c =
    rw c.from_residual-in_err-e.ensures (blocks-no-edges c.loop-i.invariant.read (omega arith) c.in_ok-s.ensures.1 c.in_ok-s.ensures.0 c.in_err-e.ensures refl refl)

pub loop-i-preserved : goal.loop-i-preserved
loop-i-preserved c = let I = c.loop-i.invariant in let S = c.in_ok-s.ensures in let E = c.in_ok-e.ensures in let F = E.1.found E.0 in record {
  goes_on = E.0;
  few = F.few;
  moves = I.moves ++ F.edges;
  read = blocking-next I.read (omega arith) S.1 S.0 E.1 E.0;
  counted = omega (arith, F.counted, length-append I.moves F.edges);
  stored = moves-stored c.args.transitions.now I.moves F.edges c.loop-i.count I.counted I.stored F.stored;
}
