-- `visit_row` meets its contract: pairs before the first that is in and not marked are out, or marked.
use Rattle.std.proofs.Common.{refl, sym, ◌∙◌, arith}
use Rattle.stricter_laws.proofs.Fitting.{row_out}
use Rattle.stricter_laws.proofs.Tries.{tried-none, tried_then}
use Rattle.stricter_cores.proofs.visit_row.Goals as goal

pub returns-then-not-stands : goal.returns-then-not-stands
returns-then-not-stands c = tried-none _ _ c.args.marks.now
    (λ x f t h. let z = row_out _ _ c.args.marks.now c.requires.1 c.args.i (sym c.stands.ensures ∙ c.if-not-stands.true) x f t in omega arith)

pub cut_low-cuts-requires : goal.cut_low-cuts-requires
cut_low-cuts-requires c = ((40, refl), c.requires.0.fits.ascend_a, omega (arith, c.requires.0.fits.few_a))

pub returns : goal.returns
returns c = let w = c.next_between-first in
    tried_then _ (tried-none _ w.result c.args.marks.now (λ x f t h. let l = w.ensures.none x f t (omega arith) in omega arith)) c.sweep_row.ensures refl
