-- `judge_choices::fill_both` meets its contract: the masks first, and the choices from them.
use mathlib.Core.Path.{◌≡◌, sym, ap, ◌∙◌}
use mathlib.Core.List.{List, ◌++◌}
use Prim.Native.Nat.{ℕ}
use lib.ListN.{length, take}
use lib.Seq.{take_at}
use Rattle.theory.specs.Rule.{Rule}
use Rattle.theory.specs.Truth.{truth_masks}
use Rattle.theory.specs.Word.{places}
use Rattle.theory_laws.proofs.Truth.{truth-length}
use Rattle.rule_entries.specs.Entries.{rule_of}
use Rattle.rule_entries.proofs.Entries.{entries-few}
use borrow.Author.Rules.{rules}
use Rattle.judge_choices.proofs.fill_both.Statement.{statement}
use Rattle.judge_choices.proofs.fill_both.Tie as tie

starts-of-requires : tie.Need-starts_of-starts-requires
starts-of-requires c κs = let start : tie.Start = search in let a = start.args in entries-few (rule_of a.h a.counts.now a.clauses.now) start.requires.0.formed

-- the front of the slice is the truth masks
front : (r : Rule) (lead cycle rest masks : List ℕ) → masks ≡ truth_masks r lead cycle ++ rest → take (places lead cycle) masks ≡ truth_masks r lead cycle
front r lead cycle rest masks e = ap (take (places lead cycle)) e ∙ take_at (truth_masks r lead cycle) rest (places lead cycle) (truth-length r lead cycle)

slice-aggregate-fill-choices : tie.Need-slice_bounds-fill_choices-end-2
slice-aggregate-fill-choices c =
    let start : tie.Start = search in let a = start.args in let r = rule_of a.h a.counts.now a.clauses.now in
    let at-fill-word : tie.After-fill_word = search in sym (ap length (front r a.lead.now a.cycle.now _ _ at-fill-word.fill_word.ensures) ∙ truth-length r a.lead.now a.cycle.now)

fill-choices-requires : tie.Need-fill_choices-requires
fill-choices-requires c κs =
    let start : tie.Start = search in let p = start.requires in let at-classes-of : tie.After-classes_of-classes = search in let at-starts-of : tie.After-starts_of-starts = search in
    let at-fill-word : tie.After-fill_word = search in (
      record {
        passing = p.0;
        beginnings = at-starts-of.starts_of-starts.ensures;
        components = at-classes-of.classes_of-classes.ensures;
        word = p.1;
        few_places = p.2;
        truths = front _ _ _ _ _ at-fill-word.fill_word.ensures;
      },
      p.4,
    )

pub fill_both_spec : {M : Type 1} → statement M
fill_both_spec = tie.close (tie.spec
    starts-of-requires (λ c κs. search rules) (λ c κs. search rules) (λ c. search rules) (λ c κs. search rules) (λ c. search rules) slice-aggregate-fill-choices
    fill-choices-requires (λ c. search rules) (λ c. search rules) (λ c. search rules))
