-- `count_left` meets its contract: k counts those before the index.
use Rattle.std.proofs.Common.{◌≡◌, ◌<◌, get_or, sym, arith}
use Rattle.trim_spec.specs.Tagged.{highs}
use Rattle.theory_laws.proofs.Numbers.{number-max}
use Rattle.theory_laws.proofs.Rewriting.{number-start, number-yes, number-no}
use Rattle.theory_laws.proofs.Tagged.{highs-at}
use Rattle.trim.proofs.number.count_left.Goals as goal
use Rattle.trim.proofs.number.count_left.Goals.{then-c-ne0, else-c-ne0}

pub loop-c-init : goal.loop-c-init
loop-c-init c = sym (number-start _)

pub overflow_add-k : goal.overflow_add-k
overflow_add-k c = omega (arith, number-max (highs c.args.codes.now) c.loop-c.c-index)

pub loop-c-preserved : goal.loop-c-preserved
loop-c-preserved c = let ms = highs c.args.codes.now in let i = c.loop-c.c-index in let h = highs-at c.args.codes.now i in elim c.if-c-ne0.branch [
  | then-c-ne0 w ↦ let left : 0 < get_or ms i 0 = omega arith in omega (arith, number-yes ms i left)
  | else-c-ne0 w ↦ let out : get_or ms i 0 ≡ 0 = omega arith in omega (arith, number-no ms i out)
]
