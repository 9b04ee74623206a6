-- `mark_pair` meets its contract: what `leads` tells of the pair.
use Rattle.std.proofs.Common.{◌≡◌, ◌+◌, ◌*◌, get_or, arith}
use mathlib.Core.Bool.{true≢false}
use Rattle.stricter_laws.proofs.Rows.{cut-le}
use Rattle.stricter_laws.proofs.Tags.{untagged-long}
use Rattle.stricter_laws.proofs.Tries.{tried-stays, tried-marks}
use Rattle.stricter_cores.proofs.mark_pair.Goals as goal

pub leads-requires-clause-by_index_2 : goal.leads-requires-clause-by_index_2
leads-requires-clause-by_index_2 c = λ b l.
    omega (arith, cut-le c.requires.0.1.fits.ascend_a c.args.i c.args.cuts.now c.requires.1 b l, untagged-long c.args.left.now)

pub returns-then-not-leads : goal.returns-then-not-leads
returns-then-not-leads c = let t = rw c.requires.5 at (c.leads.ensures c.args.i c.requires.2 c.requires.1) in tried-stays _ _ (λ h. t.no c.if-not-leads.true)

pub returns : goal.returns
returns c = let t = rw c.requires.5 at (c.leads.ensures c.args.i c.requires.2 c.requires.1) in
    let one : get_or c.args.marks.now (c.args.i * c.args.nb + c.args.j) 0 ≡ 1 = omega arith in
    tried-marks one (record { yes = λ r. t.yes c.if-not-leads.false; no = λ r. absurd (true≢false r) })
