-- `round` meets its contract: sweeps mark no pair that is out, so all that stand for their cores are settled.
use Rattle.std.proofs.Common.{sym, ◌∙◌}
use Rattle.stricter_laws.proofs.Settling.{round-of}
use Rattle.stricter_cores.proofs.round.Goals as goal

pub returns : goal.returns
returns c = let w = c.sweep_out.ensures in round-of c.requires.2 w (rw (sym (w.marking.long ∙ c.requires.0.fits.marked)) at c.settle.ensures)
