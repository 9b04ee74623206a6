-- `start_of` meets its contract: a length is less, or it is not.
use Rattle.std.proofs.Common.{◌≡◌, ◌∙◌, arith}
use Rattle.loop_search.proofs.Starts.{from, from_is, least-none, least-less, least_kept, begun}
use Rattle.loop_search.proofs.start_of.Goals.{then-k-further, else-k-further}
use Rattle.loop_search.proofs.start_of.Goals as goal

pub loop-t-init : goal.loop-t-init
loop-t-init c = least-none

pub loop-t-preserved : goal.loop-t-preserved
loop-t-preserved c = let a = c.args in let l = c.loop-t in
    let e : c.further_from-k.result ≡ from a.n a.es.now a.accepting l.t = c.further_from-k.ensures ∙ from_is a.n a.es.now a.accepting c.others_of.result l.t c.others_of.ensures in
    elim c.if-k-further.branch [
      | then-k-further w ↦ rw (w.at-is, w.further-is) (least-less e l.invariant (omega (arith, w.if-k-further.true)))
      | else-k-further w ↦ rw (w.at-is, w.further-is) (least_kept e l.invariant (omega (arith, w.if-k-further.false)))
    ]

pub returns : goal.returns
returns c = let a = c.args in let l = c.loop-t in let e : l.t ≡ a.n = omega arith in begun a.n a.es.now a.accepting l.at l.further (rw e at l.invariant)
