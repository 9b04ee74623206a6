-- `leads` meets its contract: the transitions of B that lie in the row of j stand from the place found on, up to the first of another row.
use Rattle.std.proofs.Common.{refl, ◌+◌, arith}
use Rattle.std.proofs.Math.Arith.{digits_lt}
use Rattle.sets.proofs.Lists.{mem-at}
use Rattle.stricter_core_rows.proofs.Steps.{met-leading, missed-leading}
use Rattle.stricter_core_rows.proofs.leads.Goals as goal

pub place_low-p-requires : goal.place_low-p-requires
place_low-p-requires c = ((40, refl), c.requires.by_index.0.1.ascend_b)

pub returns-then-row_of-j : goal.returns-then-row_of-j
returns-then-row_of-j c =
    λ i h cut. missed-leading _ _ _ _ _ _ _ _ c.requires.by_index.0.1 _ c.requires.by_index.1 i cut c.requires.by_index_3 c.loop-p.p
    (rw (← c.place_low-p.ensures) c.loop-p.auto.p) (λ l e. c.if-row_of-j.true (rw c.row_of.ensures e)) c.loop-p.invariant c.requires.by_index.3

pub bounds-cuts-a : goal.bounds-cuts-a
bounds-cuts-a c = omega (arith, c.letter_of-a.ensures, c.requires.by_index.0.1.letters_b _ (mem-at c.args.right.now c.loop-p.p c.loop-p-test.true))

pub bounds-cuts-a-in-loop-p : goal.bounds-cuts-a-in-loop-p
bounds-cuts-a-in-loop-p c = omega (arith, c.letter_of-a.ensures, c.requires.by_index.0.1.letters_b _ (mem-at c.args.right.now c.loop-p.p c.loop-p-test.true))

pub has_marked-requires : goal.has_marked-requires
has_marked-requires c =
    let fit = c.requires.by_index.0.1 in let m = mem-at c.args.right.now c.loop-p.p c.loop-p-test.true in (
      c.requires.by_index.2,
      c.requires.by_index_2 (c.letter_of-a.result + 1) (omega (arith, c.letter_of-a.ensures, fit.letters_b _ m)),
      λ t n. rw fit.marked (digits_lt (fit.onto_a t n) (fit.onto_b _ m)),
    )

pub returns-then-has_marked : goal.returns-then-has_marked
returns-then-has_marked c =
    λ i h cut. met-leading _ _ _ _ _ _ _ _ c.requires.by_index.0.1 _ c.requires.by_index.1 i cut (mem-at c.args.right.now c.loop-p.p c.loop-p-test.true)
    (omega (arith, c.row_of.ensures)) _ c.if-has_marked.true (rw (← c.letter_of-a.ensures) c.has_marked.ensures)

pub returns : goal.returns
returns c =
    λ i h cut. missed-leading _ _ _ _ _ _ _ _ c.requires.by_index.0.1 _ c.requires.by_index.1 i cut c.requires.by_index_3 c.loop-p.p
    (rw (← c.place_low-p.ensures) c.loop-p.auto.p) (λ l. absurd (omega arith)) c.loop-p.invariant c.requires.by_index.3
