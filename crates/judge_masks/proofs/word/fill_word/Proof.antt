-- `judge_masks::word::fill_word` meets its contract: the cycle's part of the slice is filled, then the lead-in's.
use native.Mathlib.Nat.{zero-add}
use Rattle.theory_laws.proofs.Truth.{truth-length}
use mathlib.Core.Path.{◌≡◌, ◌∙◌}
use mathlib.Core.List.Memᴰ
use mathlib.Core.List.{[]}
use native.Mathlib.Omega.{arith}
use lib.ListN.{length}
use Rattle.theory.specs.Truth.{truth_masks}
use Rattle.sets.proofs.Lists.{mem-at}
use Rattle.rule_entries.specs.Entries.{rule_of}
use Rattle.judge_place.proofs.Back.{back-truth, part_length, mid-length, mid-drop}
use borrow.Author.Rules.{rules}
use Rattle.judge_masks.proofs.word.fill_word.Statement.{statement}
use Rattle.judge_masks.proofs.word.fill_word.Tie as tie

fill-cycle-requires : tie.Need-fill_cycle-requires
fill-cycle-requires c κs = let start : tie.Start = search in let a = start.args in let z = start.requires in (
  record { passing = z.0; beginnings = z.1; word = record { repeats = z.3.repeats; lead_letters = λ x m. absurd (Memᴰ.not-nil m); cycle_letters = z.3.cycle_letters } },
  z.2,
  part_length a.masks.now (length a.lead.now) (length a.cycle.now) z.4,
)

fill-lead-requires : tie.Need-fill_lead-requires
fill-lead-requires c κs =
    let start : tie.Start = search in let a = start.args in let z = start.requires in let r = rule_of a.h a.counts.now a.clauses.now in
    let at-fill-cycle : tie.After-fill_cycle = search in let T = truth_masks r [] a.cycle.now in
    let long : length T ≡ length a.cycle.now = truth-length r [] a.cycle.now ∙ zero-add (length a.cycle.now) in (
      z.0.formed,
      z.1,
      rw at-fill-cycle.fill_cycle.ensures (omega (arith, mid-length a.masks.now (length a.lead.now) (length a.cycle.now) z.4 T long, z.3.repeats, z.4)),
      λ p l. z.3.lead_letters _ (mem-at a.lead.now p l),
    )

returns : tie.Need-returns
returns c =
    let start : tie.Start = search in let a = start.args in let z = start.requires in let r = rule_of a.h a.counts.now a.clauses.now in
    let at-fill-cycle : tie.After-fill_cycle = search in let at-fill-lead : tie.After-fill_lead = search in at-fill-lead.fill_lead.ensures
    ∙ rw (at-fill-cycle.fill_cycle.ensures, mid-drop a.masks.now (length a.lead.now) (length a.cycle.now) z.4 (truth_masks r [] a.cycle.now))
    (back-truth r z.0 a.lead.now a.cycle.now _ z.3.repeats)

pub fill_word_spec : {M : Type 1} → statement M
fill_word_spec = tie.close (tie.spec
    (λ c. search rules) (λ c. search rules) (λ c. search rules) (λ c. search rules) fill-cycle-requires fill-lead-requires (λ c. search rules) returns)
