-- `settle` meets its contract: the codes before the index are settled, and `changed` says whether an accepting one of them went out.
use Rattle.std.proofs.Common.{◌≡◌, Bool, true, false, ◌||◌, List, ℕ, ◌+◌, ◌<◌, ◌/◌, ◌%◌, ◌^◌, length, get_or, set, refl, sym, ap, ◌∙◌, arith}
use mathlib.Core.Logic.{inl, inr, ⊎_elim}
use Rattle.sets.proofs.Bools.{or_cases, or-fl, or-fr}
use Rattle.graph_walks.specs.Marks.{settled, goes_out_lem}
use Rattle.graph_walks.specs.Rounds.{Settling}
use Rattle.graph_walks.proofs.Rounds.{settling-start, settling-next}
use Rattle.trim_spec.specs.Tagged.{highs, lows}
use Rattle.theory_laws.proofs.Tagged.{highs-at, highs-length, carried}
use Rattle.trim.proofs.marks.settle.Goals as goal
use Rattle.trim.proofs.marks.settle.Goals.{then-goes_out, else-goes_out}

pub loop-c-init : goal.loop-c-init
loop-c-init c = (settling-start 0 _, refl)

-- one number more, whose code becomes v; b says whether it goes out
one-more : (old xs : List ℕ) (i v : ℕ) (changed b : Bool) → Settling 0 i (highs old) (highs xs) changed × (lows xs ≡ lows old) → i < length xs
    → v / 2 ^ 48 ≡ settled (get_or xs i 0 / 2 ^ 48) → v % 2 ^ 48 ≡ get_or xs i 0 % 2 ^ 48 → goes_out_lem (get_or xs i 0 / 2 ^ 48) ≡ b
    → Settling 0 (i + 1) (highs old) (highs (set xs i v)) (b || changed) × (lows (set xs i v) ≡ lows old)
one-more old xs i v changed b s l high low goes =
    let e = highs-at xs i in let n = highs-length xs in let told : goes_out_lem (get_or (highs xs) i 0) ≡ b = ap goes_out_lem e ∙ goes in
    let k = carried xs i v (settled (get_or (highs xs) i 0)) (high ∙ ap settled (sym e)) low in (
      rw k.0 (settling-next 0 (highs old) i (highs xs) changed s.0 (omega arith) (omega arith) (b || changed)
          (λ t. ⊎_elim (λ x. inr (told ∙ x)) inl (or_cases b changed t)) (λ t. (or-fr b changed t, told ∙ or-fl b changed t))),
      k.1 ∙ s.1,
    )

pub loop-c-preserved : goal.loop-c-preserved
loop-c-preserved c =
    let l = c.loop-c in let v = c.settled_code.ensures in
    let next = λ (b : Bool) (h : c.goes_out.result ≡ b). one-more c.args.codes.now l.codes l.c-index c.settled_code.result l.changed b l.invariant (omega arith) v.0 v.1 (sym c.goes_out.ensures ∙ h) in
    elim c.if-goes_out.branch [ then-goes_out w ↦ rw w.changed-is (next true w.if-goes_out.true) | else-goes_out w ↦ rw w.changed-is (next false w.if-goes_out.false) ]

pub returns : goal.returns
returns c = let e : c.loop-c.c-index ≡ length (highs c.args.codes.now) = omega (arith, highs-length c.args.codes.now) in rw e at c.loop-c.invariant
