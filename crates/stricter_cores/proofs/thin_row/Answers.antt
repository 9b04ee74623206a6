-- `thin_row` meets its contract: the row is that of a number that stands, from its first pair on.
use Rattle.std.proofs.Common.{refl, arith}
use Rattle.stricter_cores.proofs.thin_row.Goals as goal

pub cut_low-cuts-requires : goal.cut_low-cuts-requires
cut_low-cuts-requires c = ((40, refl), c.requires.0.fits.ascend_a, omega (arith, c.requires.0.fits.few_a))
