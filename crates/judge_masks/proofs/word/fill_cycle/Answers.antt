-- `fill_cycle` meets its contract: rounds make the states of one height right, and after the greatest height all states are.
use Rattle.std.proofs.Common.{◌≡◌, ◌+◌, ap, ◌∙◌, arith}
use Rattle.std.proofs.Math.ListN.{replicate}
use Rattle.sets.proofs.Masks.{mask_lt}
use Rattle.rule_entries.specs.Entries.{rule_of}
use Rattle.judge_place.proofs.Heights.{layer-is}
use Rattle.judge_place.proofs.Rounds.{part-start, part_end}
use Rattle.judge_masks.proofs.word.fill_cycle.Goals as goal

pub loop-height-init : goal.loop-height-init
loop-height-init c =
    part-start (rule_of c.args.h c.args.counts.now c.args.clauses.now) c.requires.0.passing c.args.cycle.now _ (c.fill_with.ensures ∙ ap (λ x. replicate x c.args.h.accepting) c.requires.2)

pub solve_layer-requires : goal.solve_layer-requires
solve_layer-requires c = (c.requires.0, rw c.at_height-layer.ensures (mask_lt _ _), c.loop-height.invariant.long)

pub loop-height-preserved : goal.loop-height-preserved
loop-height-preserved c = let z = c.requires in let l = c.loop-height in let r = rule_of c.args.h c.args.counts.now c.args.clauses.now in
    c.solve_layer.ensures l.height (c.at_height-layer.ensures ∙ layer-is r z.0.passing.formed.few_states c.args.reach.now z.1 l.height) l.invariant

pub returns-2 : goal.returns-2
returns-2 c = let z = c.requires in let l = c.loop-height in let r = rule_of c.args.h c.args.counts.now c.args.clauses.now in
    let last : l.height + 1 ≡ c.args.h.n + 1 = omega arith in
    part_end r z.0.passing c.args.cycle.now _
    (rw last at (c.solve_layer.ensures l.height (c.at_height-layer.ensures ∙ layer-is r z.0.passing.formed.few_states c.args.reach.now z.1 l.height) l.invariant))
