-- `meet` meets its contract: the pair that is met stands beside the transition at place c.
use Rattle.std.proofs.Common.{◌≡◌, ℕ, ◌+◌, ◌*◌, ◌<◌, List, length, get_or, ap, arith}
use mathlib.Core.List.{Memᴰ}
use Rattle.sets.proofs.Lists.{mem-at}
use Rattle.theory.specs.Run.{target_of}
use Rattle.stricter_laws.proofs.Forest.{marked-end, meet-stay, meet-set}
use Rattle.stricter_word.proofs.explore.meet.Goals as goal
use Rattle.stricter_word.proofs.explore.meet.Goals.{then-marks-y-eq1, else-marks-y-eq1}

-- the pair of a transition has a mark
low : (moves : List ℕ) (i t nb q size : ℕ) → i < length moves → t ≡ target_of (get_or moves i 0) → ((u : ℕ) → Memᴰ u moves → target_of u * nb + q < size)
    → t * nb + q < size
low moves i t nb q size h e f = rw e (f _ (mem-at moves i h))

pub overflow_mul-y : goal.overflow_mul-y
overflow_mul-y c = let h = low c.args.moves.now c.loop-c.c _ c.args.nb c.args.q _ (omega arith) c.target_of.ensures c.requires.2 in omega arith

pub overflow_add-y : goal.overflow_add-y
overflow_add-y c = let h = low c.args.moves.now c.loop-c.c _ c.args.nb c.args.q _ (omega arith) c.target_of.ensures c.requires.2 in omega arith

pub bounds-marks-y : goal.bounds-marks-y
bounds-marks-y c = let h = low c.args.moves.now c.loop-c.c _ c.args.nb c.args.q _ (omega arith) c.target_of.ensures c.requires.2 in omega arith

pub loop-c-preserved : goal.loop-c-preserved
loop-c-preserved c = let l = c.loop-c in let e = ap (λ (t : ℕ). t * c.args.nb + c.args.q) c.target_of.ensures in record {
  passed = λ p a b. omega arith;
  marked = elim c.if-marks-y-eq1.branch [
    | then-marks-y-eq1 w ↦ rw w.marks-is (meet-set c.requires.1 l.invariant.marked e (omega arith) w.if-marks-y-eq1.true)
    | else-marks-y-eq1 w ↦ rw w.marks-is (meet-stay c.requires.1 l.invariant.marked e w.if-marks-y-eq1.false)
  ];
}

pub returns : goal.returns
returns c = let l = c.loop-c in marked-end _
    (λ y b. record { place = b.place; above = b.above; under = l.invariant.passed b.place b.above b.under; node = b.node })
    (λ y b. record { place = b.place; above = b.above; under = omega (arith, b.under); node = b.node }) l.invariant.marked
