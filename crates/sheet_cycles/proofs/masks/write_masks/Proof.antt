-- `sheet_cycles::masks::write_masks` meets its contract: the cycle's masks are spread, then the lead-in's put in front.
use Prim.Native.Nat.{◌≤◌}
use mathlib.Core.Path.{ap, ◌∙◌}
use native.Mathlib.Omega.{arith}
use lib.ListN.{length, drop}
use borrow.Author.Rules.{rules}
use Rattle.rule_entries.specs.Entries.{rule_of}
use Rattle.judge_place.specs.Starts.{back_over}
use Rattle.sheet_cycles.proofs.Repeats.{spread-length, spread-drop}
use Rattle.sheet_cycles.proofs.masks.write_masks.Statement.{statement}
use Rattle.sheet_cycles.proofs.masks.write_masks.Tie as tie

fill-lead-requires : tie.Need-fill_lead-requires
fill-lead-requires c κs =
    let start : tie.Start = search in let a = start.args in let z = start.requires in let at-repeat-cycle : tie.After-repeat_cycle = search in let s = at-repeat-cycle.repeat_cycle in
    let order : length a.lead.now ≤ a.places = omega (arith, z.4) in
    let long = ap length s.ensures ∙ spread-length a.cycle.now (length a.lead.now) a.places a.block.now order z.5 in
    (z.0, z.1, omega (arith, long, z.4, z.5), z.2)

returns : tie.Need-returns
returns c =
    let start : tie.Start = search in let a = start.args in let z = start.requires in let order : length a.lead.now ≤ a.places = omega (arith, z.4) in
    let at-fill-lead : tie.After-fill_lead = search in let at-repeat-cycle : tie.After-repeat_cycle = search in
    at-fill-lead.fill_lead.ensures ∙ ap (back_over (rule_of a.h a.counts.now a.clauses.now) a.lead.now)
    (ap (drop (length a.lead.now)) at-repeat-cycle.repeat_cycle.ensures
    ∙ spread-drop a.cycle.now (length a.lead.now) a.places a.block.now order z.5)

pub write_masks_spec : {M : Type 1} → statement M
write_masks_spec = tie.close (tie.spec
    (λ c κs. let start : tie.Start = search in let z = start.requires in (z.3, omega (arith, z.4), z.5)) fill-lead-requires
    (λ c. search rules) returns)
