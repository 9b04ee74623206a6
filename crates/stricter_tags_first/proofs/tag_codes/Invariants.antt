-- `tag_codes` meets its contract: the codes from i on have their tags, those below are as they were.
use Rattle.std.proofs.Common.{◌+◌, ◌*◌, length, get_or}
use Rattle.stricter_spec.specs.Tags.{first_of}
use Rattle.stricter_laws.specs.Fill.{Filled}
use Rattle.stricter_tags_first.proofs.tag_codes.Given as goal

abbrev pub invariant-loop-i : goal.invariant-loop-i
invariant-loop-i l = Filled (λ k. get_or l.fn.codes k 0 + 281474976710656 * first_of l.fn.codes k) l.i (length l.fn.codes) l.fn.codes l.codes
