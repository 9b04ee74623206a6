-- `loop_search::next_state` meets its contract: the least state that the successors and the ways have in common.
use mathlib.Core.Path.{◌≡◌, ap}
use native.Mathlib.Omega.{arith}
use lib.Bits.{bit_and}
use lib.Count.{trailing_le}
use lib.ListN.{get_or}
use Rattle.sets.specs.Masks.{bit}
use Rattle.loop_spec.specs.declared.Ways.{Ways}
use Rattle.loop_spec.specs.Search.{ways}
use Rattle.loop_search.proofs.Writes.{least-common}
use borrow.Author.Rules.{rules}
use Rattle.loop_search.proofs.next_state.Statement.{statement}
use Rattle.loop_search.proofs.next_state.Tie as tie

cast-result : tie.Need-overflow_cast-result
cast-result c = let start : tie.Start = search in let at-ways-to : tie.After-ways_to-w = search in omega (
  arith,
  trailing_le 8 (bit_and (get_or start.args.es.now start.args.q 0)
      at-ways-to.ways_to-w.result.any),
)

returns : tie.Need-returns-then-passed
returns c =
    let start : tie.Start = search in let a = start.args in let w = start.requires in let at-ways-to : tie.After-ways_to-w = search in let v = at-ways-to.ways_to-w in
    let x = get_or a.es.now a.q 0 in let m = (ways a.n a.es.now (bit a.others) a.t a.k).any in let e : v.result.any ≡ m = ap (λ (y : Ways). y.any) v.ensures in
    let then1 : tie.Then-passed = search in rw (e, then1.if-passed.true) (least-common a.n x m w.0.0 (rw then1.if-passed.true at w.1))

cast-result-2 : tie.Need-overflow_cast-result-2
cast-result-2 c = let start : tie.Start = search in let at-ways-to : tie.After-ways_to-w = search in omega (
  arith,
  trailing_le 8 (bit_and (get_or start.args.es.now start.args.q 0)
      at-ways-to.ways_to-w.result.mixed),
)

returns-2 : tie.Need-returns
returns-2 c =
    let start : tie.Start = search in let a = start.args in let w = start.requires in let at-ways-to : tie.After-ways_to-w = search in let v = at-ways-to.ways_to-w in
    let x = get_or a.es.now a.q 0 in let m = (ways a.n a.es.now (bit a.others) a.t a.k).mixed in
    let e : v.result.mixed ≡ m = ap (λ (y : Ways). y.mixed) v.ensures in let else1 : tie.Else-passed = search in
    rw (e, else1.if-passed.false) (least-common a.n x m w.0.0 (rw else1.if-passed.false at w.1))

pub next_state_spec : {M : Type 1} → statement M
next_state_spec = tie.close (tie.spec (λ c κs. search rules) (λ c. search rules) cast-result returns (λ c. search rules) cast-result-2 returns-2)
