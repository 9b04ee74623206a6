-- `find_lasso` meets its contract.
use mathlib.Core.Path.{◌∙◌}
use native.Mathlib.Omega.{arith}
use native.Mathlib.Nat.{mul-le-mul_right}
use borrow.Author.Rules.{rules}
use lib.ListN.{length}
use Rattle.graph_walks.proofs.Sums.{has-place}
use Rattle.stricter_laws.proofs.Reach.{same_then}
use Rattle.stricter_laws.proofs.Words.{written}
use Rattle.stricter_word.proofs.Turns.{route-length, ask-there, ask-onto, ask-back}
use Rattle.stricter_word.proofs.lasso.find_lasso.Statement.{statement}
use Rattle.stricter_word.proofs.lasso.find_lasso.Tie as tie

abbrev at-write-between2-of : tie.After-write_between-back → tie.After-write_between-onto
at-write-between2-of c = search

abbrev at-write-between-of : tie.After-write_between-onto → tie.After-write_between-lead
at-write-between-of c = search

abbrev at-find-turn-of : tie.After-write_between-lead → tie.After-find_turn-t
at-find-turn-of c = search

abbrev start_of : tie.After-find_turn-t → tie.Start
start_of c = search

write-between-requires : tie.Need-write_between-lead-requires
write-between-requires c κs =
    let start : tie.Start = search in let p = start.requires in let at-find-turn : tie.After-find_turn-t = search in let t = at-find-turn.find_turn-t.ensures in
    let ask = ask-there t.1 t.0 p.4 in ((p.0, p.1, t.0.long ∙ p.2, ask.0, omega (arith, t.0.long, p.2, p.3)), ask.1)

write-between-requires-2 : tie.Need-write_between-onto-requires
write-between-requires-2 c κs =
    let start : tie.Start = search in let p = start.requires in let at-find-turn : tie.After-find_turn-t = search in let t = at-find-turn.find_turn-t.ensures in
    let at-write-between : tie.After-write_between-lead = search in let w = at-write-between.write_between-lead.ensures in let same = same_then t.0 w.same in
    let long = route-length (omega (arith, t.0.long, p.2, p.3, w.short)) w.written in let ask = ask-onto t.1 same in
    ((p.0, p.1, same.long ∙ p.2, ask.0, omega (arith, t.0.long, p.2, p.3, w.short, same.long, long)), ask.1)

add-write-between : tie.Need-overflow_add-lead
add-write-between c =
    let at-write-between2 : tie.After-write_between-onto = search in let at-write-between = at-write-between-of at-write-between2 in
    let at-find-turn = at-find-turn-of at-write-between in let start = start_of at-find-turn in let p = start.requires in
    let w = at-write-between.write_between-lead.ensures in let few = mul-le-mul_right (length start.args.rcodes.now) p.0.few in
    omega (arith, at-find-turn.find_turn-t.ensures.0.long, p.2, p.1.few, w.short, w.same.long, at-write-between2.write_between-onto.ensures.short)

write-between-requires-3 : tie.Need-write_between-back-requires
write-between-requires-3 c κs =
    let at-write-between2 : tie.After-write_between-onto = search in let at-write-between = at-write-between-of at-write-between2 in
    let at-find-turn = at-find-turn-of at-write-between in let p = (start_of at-find-turn).requires in let t = at-find-turn.find_turn-t.ensures in
    let w = at-write-between.write_between-lead.ensures in let o = at-write-between2.write_between-onto.ensures in let same = same_then (same_then t.0 w.same) o.same in
    let long = route-length (omega (arith, t.0.long, p.2, p.3, w.short)) w.written in
    let more = route-length (omega (arith, t.0.long, p.2, p.3, w.short, w.same.long, o.short, long)) o.written in let ask = ask-back t.1 same in
    ((p.0, p.1, same.long ∙ p.2, ask.0, omega (arith, t.0.long, p.2, p.3, w.short, w.same.long, o.short, same.long, long, more)), ask.1)

add-t26 : tie.Need-overflow_add-result
add-t26 c =
    let at-write-between3 : tie.After-write_between-back = search in let at-write-between2 = at-write-between2-of at-write-between3 in
    let at-write-between = at-write-between-of at-write-between2 in let at-find-turn = at-find-turn-of at-write-between in
    let start = start_of at-find-turn in let p = start.requires in let w = at-write-between.write_between-lead.ensures in
    let o = at-write-between2.write_between-onto.ensures in let few = mul-le-mul_right (length start.args.rcodes.now) p.0.few in
    omega (arith, at-find-turn.find_turn-t.ensures.0.long, p.2, p.1.few, w.short, w.same.long, o.short, o.same.long, at-write-between3.write_between-back.ensures.short)

returns : tie.Need-returns
returns c =
    let at-write-between3 : tie.After-write_between-back = search in let at-write-between2 = at-write-between2-of at-write-between3 in
    let at-write-between = at-write-between-of at-write-between2 in let at-find-turn = at-find-turn-of at-write-between in
    let start = start_of at-find-turn in let a = start.args in let p = start.requires in let t = at-find-turn.find_turn-t.ensures in
    let w = at-write-between.write_between-lead.ensures in let o = at-write-between2.write_between-onto.ensures in let b = at-write-between3.write_between-back.ensures in
    let place = has-place a.marks.now a.start p.4 in λ start_a start_b begins.
    written p.0 p.1 start_a start_b a.start at-find-turn.find_turn-t.result.u at-find-turn.find_turn-t.result.v
    (omega (arith, p.2)) begins t.1.accepts_u t.1.accepts_v w.written o.written b.written o.some
    (omega (arith, t.0.long, p.2, w.short)) (omega (arith, t.0.long, p.2, w.same.long, o.short)) (omega (arith, t.0.long, p.2, w.same.long, o.same.long, b.short))

pub find_lasso_spec : {M : Type 1} → statement M
find_lasso_spec = tie.close (tie.spec
    (λ c κs. search rules) write-between-requires write-between-requires-2 add-write-between write-between-requires-3 add-t26 (λ c. search rules)
    (λ c. search rules) returns)
