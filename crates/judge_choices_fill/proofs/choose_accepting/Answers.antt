-- `choose_accepting` meets its contract: a place more has its choices, each state tried against the mask of the place that follows.
use Rattle.std.proofs.Common.{◌≡◌, ◌*◌, ◌<◌, get_or, bit_and, refl, arith}
use Rattle.std.specs.Int.Bits.{and_lt}
use Rattle.sets.proofs.Bits.{bit-and}
use Rattle.theory.specs.Truth.{truth_masks}
use Rattle.theory.specs.Word.{places, next_place_lem, letter_at_lem}
use Rattle.rule_entries.specs.Entries.{rule_of}
use Rattle.judge_choices_spec.specs.Rounds.{Tried}
use Rattle.judge_choices_place.proofs.Filled.{started-step}
use Rattle.judge_choices_place.proofs.Places.{masks-long, masks-low, next_low, letters-fit, row_fits}
use Rattle.judge_choices_fill.proofs.choose_accepting.Goals as goal

pub bounds-masks-next_place : goal.bounds-masks-next_place
bounds-masks-next_place c =
    let z = c.requires.0 in let p = c.loop-p.p in let next : c.next_place.result ≡ next_place_lem c.args.lead.now c.args.cycle.now p = c.next_place.ensures _ _ refl refl in
    omega (arith, next, next_low _ _ _ _ _ _ z p (omega arith), masks-long _ _ _ _ _ _ z)

pub bounds-masks-p : goal.bounds-masks-p
bounds-masks-p c = omega (arith, masks-long _ _ _ _ _ _ c.requires.0)

pub choose_each-requires : goal.choose_each-requires
choose_each-requires c =
    let z = c.requires.0 in let w = z.passing.formed in let p = c.loop-p.p in let inside : p < places c.args.lead.now c.args.cycle.now = omega arith in (
      w,
      z.beginnings,
      z.components,
      rw c.letter_at.ensures (letters-fit _ _ _ _ _ _ z p inside),
      masks-low _ _ _ _ _ _ z c.next_place.result,
      masks-low _ _ _ _ _ _ z c.next_place.result,
      and_lt c.args.rule.head.n (get_or c.args.masks.now p 0) c.args.rule.head.accepting (masks-low _ _ _ _ _ _ z p) w.accepting_states,
      omega (arith, row_fits _ _ _ _ _ _ z p inside, c.requires.1, c.loop-p.invariant.long),
    )

pub loop-p-preserved : goal.loop-p-preserved
loop-p-preserved c =
    let a = c.args in let z = c.requires.0 in let l = c.loop-p in let p = l.p in let h = a.rule.head in let r = rule_of h a.counts.now a.clauses.now in
    let u = a.lead.now in let v = a.cycle.now in let T = truth_masks r u v in let next : c.next_place.result ≡ next_place_lem u v p = c.next_place.ensures u v refl refl in
    let F : Tried r (letter_at_lem u v p) (get_or T (next_place_lem u v p) 0) (get_or T (next_place_lem u v p) 0) (bit_and (get_or T p 0) h.accepting) (p * h.n) l.choices _ c.choose_each.result
    = rw (c.letter_at.ensures, next, z.truths) at c.choose_each.ensures in
    started-step r z.passing u v z.word p (bit_and (get_or T p 0) h.accepting) a.choices.now l.choices _ c.choose_each.result (omega arith) (λ q k. bit-and (get_or T p 0) h.accepting q) l.invariant F
