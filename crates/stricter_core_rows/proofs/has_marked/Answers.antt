-- `has_marked` meets its contract: the pair that a transition leads to has a mark.
use Rattle.std.proofs.Common.{◌≡◌, List, ℕ, ◌+◌, ◌*◌, ◌<◌, length, get_or, arith}
use mathlib.Core.List.{Memᴰ}
use Rattle.sets.proofs.Lists.{mem-at}
use Rattle.stricter_spec.specs.Tags.{onto_of_lem}
use Rattle.stricter_core_rows.proofs.has_marked.Goals as goal

-- x and q are what the code reads for the parts of the pair
node_low : (left marks : List ℕ) (nb u c x q : ℕ) → ((t : ℕ) → Memᴰ t left → onto_of_lem t * nb + onto_of_lem u < length marks)
    → c < length left → x ≡ onto_of_lem (get_or left c 0) → q ≡ onto_of_lem u → x * nb + q < length marks
node_low left marks nb u c x q h l e f = rw (e, f) (h _ (mem-at left c l))

pub overflow_mul-y : goal.overflow_mul-y
overflow_mul-y c =
    let n = node_low c.args.left.now c.args.marks.now c.args.nb c.args.u c.loop-c.c _ _ c.requires.2 (omega arith) c.onto_of.ensures c.onto_of-q.ensures in omega arith

pub overflow_add-y : goal.overflow_add-y
overflow_add-y c =
    let n = node_low c.args.left.now c.args.marks.now c.args.nb c.args.u c.loop-c.c _ _ c.requires.2 (omega arith) c.onto_of.ensures c.onto_of-q.ensures in omega arith

pub bounds-marks-y : goal.bounds-marks-y
bounds-marks-y c = node_low c.args.left.now c.args.marks.now c.args.nb c.args.u c.loop-c.c _ _ c.requires.2 (omega arith) c.onto_of.ensures c.onto_of-q.ensures
