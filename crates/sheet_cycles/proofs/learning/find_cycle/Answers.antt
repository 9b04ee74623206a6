-- `find_cycle` meets its contract: part k is the cycle, or one part more is not.
use Rattle.std.proofs.Common.{◌≡◌, List, ℕ, ◌+◌, ◌-◌, Bool, get_or, take, drop, Decides, sym, ◌∙◌, arith}
use Rattle.std.proofs.lemmas.Bool.{false≢true}
use Rattle.sheet_cycles.proofs.Known.{not_start, not-next, found_here}
use Rattle.sheet_cycles.proofs.learning.find_cycle.Goals as goal

-- the part of n bytes from s on, compared with the cycle
compared : (sheet cycle : List ℕ) (s n : ℕ) (r : Bool) → Decides r (take (s + n - s) (drop s sheet) ≡ cycle) → Decides r (take n (drop s sheet) ≡ cycle)
compared sheet cycle s n r same = let q : s + n - s ≡ n = omega arith in rw q at same

pub loop-k-init : goal.loop-k-init
loop-k-init c = not_start _ _ _ _

pub returns-then-same : goal.returns-then-same
returns-then-same c =
    let s = get_or c.args.from.now c.loop-k.k 0 in let n = get_or c.args.size.now c.loop-k.k 0 in
    found_here (omega arith) ((compared c.args.sheet.now c.args.cycle.now s n _ c.same.ensures).0 c.if-same.true)

pub loop-k-preserved : goal.loop-k-preserved
loop-k-preserved c =
    let s = get_or c.args.from.now c.loop-k.k 0 in let n = get_or c.args.size.now c.loop-k.k 0 in
    not-next _ _ _ _ c.loop-k.k (λ h. false≢true (sym c.if-same.false ∙ (compared c.args.sheet.now c.args.cycle.now s n _ c.same.ensures).1 h)) c.loop-k.invariant
