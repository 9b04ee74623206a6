-- `is_left` meets its contract: both ends carry numbers that are not 0.
use Rattle.std.proofs.Common.{◌≡◌, ◌/◌, ◌^◌, ◌<◌, get_or, sym, arith}
use Rattle.theory.specs.Run.{source_of}
use Rattle.theory_laws.proofs.Ends.{left_not, left_by}
use Rattle.trim.proofs.number.is_left.Goals as goal

pub returns-then-codes-source_of-eq0 : goal.returns-then-codes-source_of-eq0
returns-then-codes-source_of-eq0 c =
    let xs = c.args.codes.now in let out : get_or xs c.source_of.result 0 / 2 ^ 48 ≡ 0 = omega arith in sym (left_not xs c.args.t (rw c.source_of.ensures at out))

pub returns : goal.returns
returns c =
    let xs = c.args.codes.now in let there : 0 < get_or xs c.source_of.result 0 / 2 ^ 48 = omega arith in
    let source : 0 < get_or xs (source_of c.args.t) 0 / 2 ^ 48 = rw c.source_of.ensures at there in rw c.target_of.ensures (left_by xs c.args.t source)
