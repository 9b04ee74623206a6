-- `choose_rejecting` meets its contract: a round more, and the rounds end where nothing is left or no distance is greater.
use Rattle.std.proofs.Common.{◌≡◌, ◌*◌, ◌<◌, refl, ap, arith}
use Rattle.std.proofs.lemmas.List.{get_or-replicate}
use Rattle.std.proofs.Math.Numerals.{add-one}
use Rattle.sets.specs.Masks.{bit}
use Rattle.theory.specs.Truth.{truth_masks}
use Rattle.theory.specs.Word.{places}
use Rattle.rule_entries.specs.Entries.{rule_of}
use Rattle.judge_choices_spec.specs.ChoicesComputed.{near_at}
use Rattle.judge_choices_spec.specs.Rounds.{Round, Rounds}
use Rattle.judge_choices_place.proofs.Places.{all-low, all_in}
use Rattle.judge_choices_place.proofs.Rounds.{near-low, rounds-start, rounds-step, rounds-stop, rounds-end}
use Rattle.judge_choices_rounds.proofs.choose_rejecting.Goals as goal

pub loop-init : goal.loop-init
loop-init c =
    let a = c.args in let z = c.requires.0 in let end = places a.lead.now a.cycle.now in let some : 0 < end = omega (arith, z.word.repeats) in (
      refl,
      rounds-start (rule_of a.rule.head a.counts.now a.clauses.now) z.passing a.lead.now a.cycle.now z.word _ a.choices.now _
          (λ x l. get_or-replicate 64 x 0 0 (omega (arith, z.few_places))) (all-low end some z.few_places) (all_in end some z.few_places),
    )

pub returns-then-work-eq0 : goal.returns-then-work-eq0
returns-then-work-eq0 c =
    let a = c.args in let z = c.requires.0 in let l = c.loop in let r = rule_of a.rule.head a.counts.now a.clauses.now in
    let R : Rounds r a.lead.now a.cycle.now (truth_masks r a.lead.now a.cycle.now) l.counter l.near 0 a.choices.now l.choices = rw c.if-work-eq0.true at l.invariant.1 in
    rw z.truths
    (rounds-end r z.passing a.lead.now a.cycle.now z.word l.counter l.near 0 a.choices.now l.choices R
    (rounds-stop r z.passing a.lead.now a.cycle.now z.word l.counter l.near a.choices.now l.choices R (omega arith)))

pub round-changed-requires : goal.round-changed-requires
round-changed-requires c =
    let a = c.args in let z = c.requires in let l = c.loop in let R = l.invariant.1 in let r = rule_of a.rule.head a.counts.now a.clauses.now in
    (z.0, λ k m. rw (R.within k m) (near-low r z.0.passing a.lead.now a.cycle.now z.0.word l.counter k), omega (arith, z.1, R.long), R.few, l.invariant.0)

pub loop-preserved : goal.loop-preserved
loop-preserved c =
    let a = c.args in let z = c.requires.0 in let l = c.loop in let r = rule_of a.rule.head a.counts.now a.clauses.now in let f = c.round-changed in let w = c.places_before-work in
    let S : Round r a.lead.now a.cycle.now (truth_masks r a.lead.now a.cycle.now) l.near (bit l.work) l.choices _ _ f.result = rw z.truths at f.ensures.0 in (
      f.ensures.1,
      rw (add-one l.counter) (rounds-step r z.passing a.lead.now a.cycle.now z.word l.counter l.near _ a.choices.now l.choices _
          l.work w.result f.result l.invariant.1 S w.ensures.0 (w.ensures.1 a.lead.now a.cycle.now refl refl)),
    )

pub returns : goal.returns
returns c =
    let a = c.args in let z = c.requires.0 in let l = c.loop in let r = rule_of a.rule.head a.counts.now a.clauses.now in
    let e : l.counter ≡ places a.lead.now a.cycle.now * a.rule.head.n = omega arith in
    rw z.truths
    (rounds-end r z.passing a.lead.now a.cycle.now z.word l.counter l.near l.work a.choices.now l.choices l.invariant.1
    (λ x k. ap (λ d. near_at r a.lead.now a.cycle.now (truth_masks r a.lead.now a.cycle.now) d x) e))
