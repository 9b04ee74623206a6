-- `take_starts` meets its contract: number i has a start line or not, and its flag is stored.
use Rattle.std.proofs.Common.{◌∙◌, [], ◌∷◌, ◌++◌, refl, arith}
use Rattle.hoa_laws.proofs.Starting.{starting-none, starting-no, starting-yes, flag-stored, none-stored}
use Rattle.hoa_read_parts.proofs.take_starts.Goals as goal
use Rattle.hoa_read_parts.proofs.take_starts.Goals.{in-None, in-Some}

pub loop-i-init : goal.loop-i-init
loop-i-init c = record { starts = []; read = starting-none (omega arith); stored = none-stored c.args.flags.now c.args.accepting }

pub loop-i-preserved : goal.loop-i-preserved
loop-i-preserved c = let l = c.loop-i in let I = l.invariant in elim c.match-take_start.branch [
  | in-None w ↦ record {
    starts = I.starts ++ (0 ∷ []);
    read = rw (w.last-is, w.end-is) (starting-no I.read (omega arith) w.in-None.ensures refl);
    stored = w.flags-is ∙ flag-stored c.args.flags.now c.args.accepting I.starts l.i 0 w.flag_of.result I.read.long I.stored w.flag_of.ensures w.store_flag.ensures;
  }
  | in-Some w ↦ record {
    starts = I.starts ++ (1 ∷ []);
    read = rw (w.last-is, w.end-is) (starting-yes I.read (omega arith) w.in-Some.ensures.1 w.in-Some.ensures.0);
    stored = w.flags-is
        ∙ flag-stored c.args.flags.now c.args.accepting I.starts l.i 1 w.flag_of-in-Some.result I.read.long I.stored w.flag_of-in-Some.ensures w.store_flag-in-Some.ensures;
  }
]
