-- `codes::word_at` meets its contract: the eight bytes are the digits to the base 256.
use Rattle.std.proofs.Common.{ℕ, get_or, add-zero, ap, ◌∙◌, arith}
use Rattle.sets.specs.Digits.{num}
use Rattle.codes.specs.Bytes.{word_at}
use Rattle.codes.proofs.word_at.Goals as goal

pub returns : goal.returns
unfolding word_at num
returns c = let a = c.args in let z = ap (λ (k : ℕ). get_or a.bytes.now k 0) (add-zero a.i) in c.from_le_bytes.ensures ∙ omega arith
