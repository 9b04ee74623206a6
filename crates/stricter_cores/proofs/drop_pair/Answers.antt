-- `drop_pair` meets its contract: a pair that leads to none that is in is stuck.
use Rattle.std.proofs.Common.{arith}
use Rattle.stricter_laws.proofs.Rows.{cut-le}
use Rattle.stricter_laws.proofs.Tags.{untagged-long}
use Rattle.stricter_laws.proofs.Ends.{thinned-one}
use Rattle.stricter_cores.proofs.drop_pair.Goals as goal

pub leads-requires-clause-by_index_2 : goal.leads-requires-clause-by_index_2
leads-requires-clause-by_index_2 c = λ b l.
    omega (arith, cut-le c.requires.0.1.fits.ascend_a c.args.i c.args.cuts.now c.requires.1 b l, untagged-long c.args.left.now)

pub returns : goal.returns
returns c = thinned-one c.requires.4 ((c.leads.ensures c.args.i c.requires.2 c.requires.1).no c.if-leads.false)
