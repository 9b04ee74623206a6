-- `strip` meets its contract: a mask of the low bits leaves the rest of a division.
use Rattle.std.proofs.Common.{sym, ap, ◌∙◌, inr, ℕ, ◌-◌, ◌%◌, ◌^◌, get_or, bit_and, arith}
use lib.Bits.{and_mask}
use lib.Pow.{pow_pos}
use lib.Seq.{ext_get_or}
use Rattle.sets.proofs.Bits.{shl_one}
use Rattle.slice_search.specs.LowParts.{low_parts}
use Rattle.slice_search.proofs.LowParts.{low-at, low-long}
use Rattle.stricter_laws.proofs.Fill.{filled_next}
use Rattle.stricter_tags.proofs.strip.Goals as goal

pub overflow_sub-mask : goal.overflow_sub-mask
overflow_sub-mask c = omega (arith, shl_one 64 c.args.bits (omega arith), pow_pos c.args.bits)

pub loop-x-preserved : goal.loop-x-preserved
loop-x-preserved c = let F = c.loop-x.invariant in let x = get_or c.loop-x.list c.loop-x.x-index 0 in
    filled_next _ (omega arith) (omega arith) F
    (ap (λ (n : ℕ). bit_and x (n - 1)) (shl_one 64 c.args.bits (omega arith)) ∙ and_mask x c.args.bits
    ∙ ap (λ (v : ℕ). v % 2 ^ c.args.bits) (F.outside c.loop-x.x-index (inr (omega arith))))

pub returns : goal.returns
returns c = let F = c.loop-x.invariant in
    ext_get_or 0 c.loop-x.list (low_parts (2 ^ c.args.bits) c.args.list.now) (F.long ∙ sym (low-long (2 ^ c.args.bits) c.args.list.now))
    (λ k h. F.inside k (omega arith) (omega (arith, F.long)) ∙ sym (low-at (2 ^ c.args.bits) (pow_pos c.args.bits) c.args.list.now k))
