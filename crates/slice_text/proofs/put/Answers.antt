-- `put` meets its contract: one byte more is copied, and at the end the text is.
use Rattle.std.proofs.Common.{◌≡◌, length, ◌∙◌, arith}
use native.Mathlib.Numerals.{add-one}
use lib.Seq.{paste-zero, paste-suc}
use Rattle.slice_text.proofs.Puts.{put_copy}
use Rattle.slice_text.proofs.put.Goals as goal

pub loop-i-init : goal.loop-i-init
loop-i-init c = paste-zero c.args.out.now c.args.at c.args.text.now

pub loop-i-preserved : goal.loop-i-preserved
loop-i-preserved c = let a = c.args in let l = c.loop-i in rw (l.invariant, add-one) (paste-suc a.out.now a.at a.text.now l.i 0 (omega arith) (omega arith))

pub returns : goal.returns
returns c =
    let a = c.args in let l = c.loop-i in let e : l.i ≡ length a.text.now = omega arith in put_copy a.out.now a.at a.text.now l.out c.requires (l.invariant ∙ rw e)
