-- `mark` meets its contract: x is marked where it is in and not marked, and y is accepting or marked.
use Rattle.std.proofs.Common.{◌≡◌, ◌∙◌, ◌&&◌, ◌/◌, ◌^◌, ◌<◌, true, ℕ, ltb, get_or, refl, sym, ap, arith}
use lib.Dec.{eqb}
use Rattle.std.proofs.lemmas.Bool.{ltb-true, lt-ltb}
use Rattle.sets.proofs.Bools.{clash, and_l, and_r, and_i}
use Rattle.graph_walks.proofs.Marking.{mark-yes, mark-no}
use Rattle.trim_spec.specs.Tagged.{highs}
use Rattle.theory_laws.proofs.Tagged.{highs-at, raised}
use Rattle.trim.proofs.marks.mark.Goals as goal

free-facts : (v : ℕ) → (ltb 0 v && ltb v 3) ≡ true → (0 < v) × (v < 3)
free-facts v e = (ltb-true 0 v (and_l (ltb 0 v) _ e), ltb-true v 3 (and_r (ltb 0 v) _ e))

pub returns-then-not-is_free : goal.returns-then-not-is_free
returns-then-not-is_free c =
    let a = c.args in let v = get_or a.codes.now a.x 0 / 2 ^ 48 in let e = highs-at a.codes.now a.x in
    let k = mark-no a.x a.y (highs a.codes.now)
    (λ d. clash (and_i (lt-ltb 0 v (omega (arith, d.member, e))) (lt-ltb v 3 (omega (arith, d.free, e)))) (sym c.is_free.ensures ∙ c.if-not-is_free.true)) in (k.0, refl, k.1)

pub returns-then-codes-y-lt2 : goal.returns-then-codes-y-lt2
returns-then-codes-y-lt2 c = let a = c.args in let k = mark-no a.x a.y (highs a.codes.now) (λ d. omega (arith, d.known, highs-at a.codes.now a.y)) in (k.0, refl, k.1)

pub overflow_add-codes : goal.overflow_add-codes
overflow_add-codes c = let g = free-facts (get_or c.args.codes.now c.args.x 0 / 2 ^ 48) (sym c.is_free.ensures ∙ c.if-not-is_free.false) in omega (arith, g.1)

pub returns : goal.returns
returns c =
    let a = c.args in let xs = a.codes.now in let ms = highs xs in let e = highs-at xs a.x in let f = highs-at xs a.y in
    let g = free-facts (get_or xs a.x 0 / 2 ^ 48) (sym c.is_free.ensures ∙ c.if-not-is_free.false) in
    let k = mark-yes a.x a.y ms (record { known = omega arith; member = omega (arith, g.0); free = omega (arith, g.1) }) in let r = raised xs a.x in
    (r.0 ∙ k.0, r.1, ap (λ (v : ℕ). eqb v 1) (sym e) ∙ k.1)
