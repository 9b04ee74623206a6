-- `shared_word` meets its contract.
use mathlib.Core.Path.{◌≡◌, ◌∙◌}
use Prim.Native.Nat.{◌+◌}
use native.Mathlib.Omega.{arith}
use native.Mathlib.Nat.{add-zero}
use borrow.Author.Rules.{rules}
use lib.ListN.{length}
use Rattle.graph_walks.proofs.Sums.{has-place}
use Rattle.stricter_spec.specs.Search.{Written}
use Rattle.stricter_laws.specs.Pairs.{PairStep}
use Rattle.stricter_laws.proofs.Words.{written}
use Rattle.stricter_word.proofs.Turns.{sound-same, stays_at}
use Rattle.stricter_word.proofs.lasso.shared_word.Statement.{statement}
use Rattle.stricter_word.proofs.lasso.shared_word.Tie as tie

write-round-requires : tie.Need-write_round-n-requires
write-round-requires c κs =
    let start : tie.Start = search in let a = start.args in let p = start.requires in (p.0, p.1, p.2, has-place a.marks.now a.start p.4, omega (arith, p.2, p.3))

returns : tie.Need-returns-then-n-gt0
returns c =
    let start : tie.Start = search in let a = start.args in let p = start.requires in let at-write-round : tie.After-write_round-n = search in let r = at-write-round.write_round-n in
    let R = r.ensures in let l = c.if-n-gt0.true in let s = PairStep (length a.rcodes.now) a.left.now a.right.now in let place = has-place a.marks.now a.start p.4 in
    λ start_a start_b begins.
    let w : Written a.lcodes.now a.left.now start_a a.rcodes.now a.right.now start_b 0 (r.result + 0) a.word.now _
    = written p.0 p.1 start_a start_b a.start a.start a.start (omega (arith, p.2)) begins (R.first l) (R.second l)
    (stays_at s a.start 0 a.word.now) (R.written l) (stays_at s a.start (0 + r.result) _) l
    (omega arith) (omega (arith, R.short, p.2)) (omega arith) in rw (add-zero r.result) at w

find-lasso-requires : tie.Need-find_lasso-requires
find-lasso-requires c κs =
    let start : tie.Start = search in let a = start.args in let p = start.requires in let at-write-round : tie.After-write_round-n = search in let R = at-write-round.write_round-n.ensures in
    let else1 : tie.Else-n-gt0 = search in let z : at-write-round.write_round-n.result ≡ 0 = omega (arith, else1.if-n-gt0.false) in
    (p.0, p.1, R.same.long ∙ p.2, rw (R.none z) p.3, R.same.kept a.start p.4, sound-same R.same p.5)

returns-2 : tie.Need-returns
returns-2 c =
    let at-write-round : tie.After-write_round-n = search in let R = at-write-round.write_round-n.ensures in let else1 : tie.Else-n-gt0 = search in
    let z : at-write-round.write_round-n.result ≡ 0 = omega (arith, else1.if-n-gt0.false) in let at-find-lasso : tie.After-find_lasso = search in
    λ start_a start_b begins. rw (R.none z) at (at-find-lasso.find_lasso.ensures start_a start_b begins)

pub shared_word_spec : {M : Type 1} → statement M
shared_word_spec = tie.close (tie.spec
    write-round-requires (λ c. search rules) (λ c. search rules) returns find-lasso-requires (λ c. search rules) (λ c. search rules) returns-2)
