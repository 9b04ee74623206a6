-- `compact` meets its contract: the first w codes are what is left of those before i.
use Rattle.std.proofs.Common.{◌≡◌, ℕ, ◌/◌, ◌%◌, ◌^◌, ◌<◌, get_or, ap, ◌∙◌, arith}
use Rattle.trim_spec.specs.Tagged.{compacted}
use Rattle.theory_laws.proofs.Ends.{compacted-none}
use Rattle.theory_laws.proofs.Tagged.{compacted-in, compacted-not}
use Rattle.trim.proofs.Compacting.{compact-at, compact-keep, compact-skip, compact-count, compact-end}
use Rattle.trim.proofs.number.compact.Goals as goal
use Rattle.trim.proofs.number.compact.Goals.{then-c-ne0, else-c-ne0}

pub loop-i-preserved : goal.loop-i-preserved
loop-i-preserved c = let l = c.loop-i in let xs = c.args.codes.now in let e = compact-at compacted xs l.codes l.w l.i (omega arith) l.invariant in elim c.if-c-ne0.branch [
  | then-c-ne0 w ↦ let left : 0 < get_or xs l.i 0 / 2 ^ 48 = omega arith in
      let v : w.without_number.result ≡ get_or xs l.i 0 % 2 ^ 48 = w.without_number.ensures ∙ ap (λ (x : ℕ). x % 2 ^ 48) e in
      rw (w.codes-is, w.w-is, v) (compact-keep compacted xs l.codes l.w l.i (omega arith) l.invariant _ (compacted-in _ _ left))
  | else-c-ne0 w ↦ let out : get_or xs l.i 0 / 2 ^ 48 ≡ 0 = omega arith in
      rw (w.codes-is, w.w-is) (compact-skip compacted xs l.codes l.w l.i (omega arith) l.invariant (compacted-not _ _ out))
]

pub returns : goal.returns
returns c = let l = c.loop-i in let xs = c.args.codes.now in
    (compact-count compacted xs l.codes l.w l.i (omega arith) compacted-none l.invariant, c.zero_from.ensures ∙ compact-end compacted xs l.codes l.w l.i (omega arith) compacted-none l.invariant)
