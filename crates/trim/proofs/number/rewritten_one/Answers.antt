-- `rewritten_one` meets its contract: both ends are left, so their numbers are 1 more than their new ones.
use Rattle.std.proofs.Common.{◌/◌, ◌^◌, ◌<◌, get_or, sym, arith}
use Rattle.theory_laws.proofs.Ends.{left-source, left-target, rewrite-is}
use Rattle.trim.proofs.number.rewritten_one.Goals as goal

pub overflow_sub-source : goal.overflow_sub-source
overflow_sub-source c = let k : 0 < get_or c.args.codes.now c.source_of.result 0 / 2 ^ 48 = rw c.source_of.ensures (left-source c.args.codes.now c.args.t c.requires.2) in omega arith

pub overflow_sub-target : goal.overflow_sub-target
overflow_sub-target c = let k : 0 < get_or c.args.codes.now c.target_of.result 0 / 2 ^ 48 = rw c.target_of.ensures (left-target c.args.codes.now c.args.t c.requires.2) in omega arith

pub returns : goal.returns
returns c = rw (c.pack_transition.ensures, c.letter_of.ensures, c.target_of.ensures, c.source_of.ensures) (sym (rewrite-is c.args.codes.now c.args.t))
