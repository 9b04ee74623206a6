-- `further_from` meets its contract: one step more, and whether a mixed loop was met.
use Rattle.std.proofs.Common.{◌≡◌, ◌-◌, sym, ◌∙◌, arith}
use Rattle.loop_search.proofs.Steps.{mixed, ways-bounds, ways-none, ways_next, mixed-at, first-here, first_on, first-end}
use Rattle.loop_search.proofs.ways.further_from.Goals as goal

pub loop-k-init : goal.loop-k-init
loop-k-init c = let a = c.args in let e : a.n - 0 ≡ a.n = omega arith in (ways-none a.n a.es.now a.others a.t c.requires.0 c.requires.1, rw e)

pub step_back-w-requires : goal.step_back-w-requires
step_back-w-requires c = let a = c.args in ways-bounds a.n a.es.now a.others a.t c.loop-k.k c.loop-k.w c.requires.0 c.requires.1 c.loop-k.invariant.0

pub loop-k-preserved : goal.loop-k-preserved
loop-k-preserved c = let a = c.args in let l = c.loop-k in let v = c.step_back-w in
    let w = ways_next a.n a.es.now a.others a.t l.k v.result l.w l.invariant.0 v.ensures in
    let e = mixed-at a.n a.es.now a.others a.t l.k v.result c.contains.result w c.contains.ensures ∙ c.if-contains.false in
    (w, l.invariant.1 ∙ first_on a.n (mixed a.n a.es.now a.others a.t) l.k c.loop-k-test.true e)

pub returns-then-contains : goal.returns-then-contains
returns-then-contains c = let a = c.args in let l = c.loop-k in let v = c.step_back-w in
    let w = ways_next a.n a.es.now a.others a.t l.k v.result l.w l.invariant.0 v.ensures in
    let e = mixed-at a.n a.es.now a.others a.t l.k v.result c.contains.result w c.contains.ensures ∙ c.if-contains.true in
    sym (l.invariant.1 ∙ first-here a.n (mixed a.n a.es.now a.others a.t) l.k c.loop-k-test.true e)

pub returns : goal.returns
returns c = let a = c.args in let l = c.loop-k in let e : l.k ≡ a.n = omega arith in sym (rw (e, first-end a.n (mixed a.n a.es.now a.others a.t)) at l.invariant.1)
