-- `bury` meets its contract: one more code has what is given; a list of 65,536 stays.
use Rattle.std.proofs.Common.{◌≡◌, ap, ◌∙◌, inr, cond, ℕ, ◌+◌, ◌*◌, ◌%◌, ◌^◌, ltb, length, get_or, arith}
use Rattle.stricter_laws.proofs.Fill.{filled_next}
use Rattle.stricter_tags.proofs.Live.{all_stay, some_go}
use Rattle.stricter_tags.proofs.bury.Goals as goal

pub returns-then-n-gt65535 : goal.returns-then-n-gt65535
returns-then-n-gt65535 c = all_stay c.args.codes.now c.args.live.now (omega arith)

pub loop-i-preserved : goal.loop-i-preserved
loop-i-preserved c = let F = c.loop-i.invariant in
    filled_next _ (omega arith) (omega arith) F
    (c.told.ensures ∙ ap (λ (x : ℕ). cond (ltb 0 (get_or c.args.live.now c.loop-i.i 0)) x (x % 2 ^ 48 + 2 ^ 48 * length c.args.codes.now)) (F.outside c.loop-i.i (inr (omega arith))))

pub returns : goal.returns
returns c = let e : c.loop-i.i ≡ length c.args.codes.now = omega arith in some_go c.args.live.now (omega arith) (rw e at c.loop-i.invariant)
