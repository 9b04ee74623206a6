-- `judge_choices_fill::fill_choices` meets its contract: 255 everywhere, then the accepting states, then the rejecting ones.
use Prim.Native.Nat.{ℕ, ◌*◌, ◌≤◌}
use mathlib.Core.Path.{◌≡◌, ◌∙◌, ap}
use mathlib.Core.List.{List, ◌++◌}
use native.Mathlib.Omega.{arith}
use lib.ListN.{length, take, drop, replicate, length-take}
use Rattle.theory.specs.Word.{places}
use Rattle.rule_entries.specs.Entries.{rule_of}
use Rattle.judge_choices_place.proofs.Filled.{all-filled}
use borrow.Author.Rules.{rules}
use Rattle.judge_choices_fill.proofs.fill_choices.Statement.{statement}
use Rattle.judge_choices_fill.proofs.fill_choices.Tie as tie

abbrev at-fill-with-of-at-choices2 : tie.After-choices-2-1 → tie.After-fill_with
at-fill-with-of-at-choices2 c = search

-- a front part is as long as it is asked to be
front : (n : ℕ) (xs : List ℕ) → n ≤ length xs → length (take n xs) ≡ n
front n xs l = let k = length-take n xs in omega arith

slice-aggregate-fill-with : tie.Need-slice_bounds-fill_with-end-2
slice-aggregate-fill-with c = let start : tie.Start = search in omega (arith, front _ start.args.choices.now start.requires.1)

returns : tie.Need-returns
returns c =
    let start : tie.Start = search in let a = start.args in let p = start.requires in let r = rule_of a.rule.head a.counts.now a.clauses.now in
    let end = places a.lead.now a.cycle.now * a.rule.head.n in let at-fill-with : tie.After-fill_with = at-fill-with-of-at-choices2 (search) in let f = at-fill-with.fill_with in
    let at-choose-accepting : tie.After-choose_accepting = search in let at-choose-rejecting : tie.After-choose_rejecting = search in
    all-filled r p.0.passing a.lead.now a.cycle.now p.0.word a.choices.now _ _ _ p.1
    (ap (λ (ys : List ℕ). ys ++ drop end a.choices.now) (f.ensures ∙ ap (λ (k : ℕ). replicate {A = ℕ} k 255) (front end a.choices.now p.1)))
    (rw p.0.truths at at-choose-accepting.choose_accepting.ensures) (rw p.0.truths at at-choose-rejecting.choose_rejecting.ensures)

pub fill_choices_spec : {M : Type 1} → statement M
fill_choices_spec = tie.close (tie.spec
    (λ c. search rules) (λ c. search rules) (λ c. search rules) slice-aggregate-fill-with (λ c κs. search rules) (λ c κs. search rules) (λ c κs. search rules)
    (λ c. search rules) returns)
