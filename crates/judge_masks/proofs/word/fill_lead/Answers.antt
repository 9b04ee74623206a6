-- `fill_lead` meets its contract: each mask follows from the next.
use Rattle.std.proofs.Common.{◌≡◌, ◌+◌, ◌-◌, get_or, length, drop, ap, ◌∙◌, arith}
use Rattle.sets.specs.Masks.{bit, mask}
use Rattle.theory.specs.Rule.{entry, satisfies}
use Rattle.rule_entries.specs.Entries.{rule_of}
use Rattle.judge_place.specs.Starts.{met_by_lem}
use Rattle.judge_place.proofs.Back.{met_all, full-lt, back-next, back_start}
use Rattle.judge_masks.proofs.word.fill_lead.Goals as goal

pub loop-i-init : goal.loop-i-init
loop-i-init c = back_start (rule_of c.args.h c.args.counts.now c.args.clauses.now) c.args.lead.now c.args.masks.now

pub met_by-requires : goal.met_by-requires
met_by-requires c = let z = c.requires in (z.0, z.1, z.3 (c.loop-i.i - 1) (omega arith), rw c.full-all.ensures (full-lt _ z.0.few_states))

pub loop-i-preserved : goal.loop-i-preserved
loop-i-preserved c =
    let z = c.requires in let l = c.loop-i in let r = rule_of c.args.h c.args.counts.now c.args.clauses.now in let lead = c.args.lead.now in
    let one : l.i - 1 + 1 ≡ l.i = omega arith in let a = get_or lead (l.i - 1) 0 in let m = get_or l.masks (l.i - 1 + 1) 0 in
    let v : c.met_by.result ≡ mask r.n (λ q. satisfies r.n (bit m) (entry r q a)) = c.met_by.ensures ∙ ap (met_by_lem r a m) c.full-all.ensures ∙ met_all r z.0.few_states a m in
    back-next r lead l.masks (drop (length lead) c.args.masks.now) (l.i - 1) (omega arith) (omega (arith, z.2)) (rw one l.invariant) c.met_by.result v
