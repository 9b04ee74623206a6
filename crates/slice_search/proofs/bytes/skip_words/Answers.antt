-- `skip_words` meets its contract: eight bytes more are 0 where their word is.
use Rattle.std.proofs.Common.{arith}
use Rattle.slice_search.proofs.Eights.{zeros-word}
use Rattle.slice_search.proofs.bytes.skip_words.Goals as goal

pub loop-i-preserved : goal.loop-i-preserved
loop-i-preserved c = (zeros-word _ _ c.loop-i.i c.loop-i.invariant.0 (omega (arith, c.word_at.ensures)), omega arith)
