-- `round` meets its contract: a place more was opened, and a state there.
use Rattle.std.proofs.Common.{◌≡◌, ◌+◌, ◌-◌, true, sym, ◌∙◌, arith}
use Rattle.rule_entries.specs.Entries.{rule_of}
use Rattle.judge_place.proofs.Rounds.{Walk, walk-next}
use Rattle.judge_masks.proofs.layer.round.Goals as goal

pub loop-p-preserved-then-open_at : goal.loop-p-preserved-then-open_at
loop-p-preserved-then-open_at c =
    let a = c.args in let z = c.requires in let l = c.loop-p in let r = rule_of a.h a.counts.now a.clauses.now in let e = c.open_at.ensures in
    let one : l.p - 1 + 1 ≡ l.p = omega arith in let w : Walk r a.cycle.now a.layer a.masks.now l.masks l.changed (l.p - 1 + 1) = rw one l.invariant.1 in (
      λ i. (c.type_inv.masks i).fits,
      rw e.0 (walk-next r a.cycle.now a.layer a.masks.now z.0.passing z.0.word.repeats l.masks l.changed (l.p - 1) w z.2 (omega arith) (l.invariant.0 (l.p - 1)) true
          (sym e.1 ∙ c.if-open_at.true)),
    )
