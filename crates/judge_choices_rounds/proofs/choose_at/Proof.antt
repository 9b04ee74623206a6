-- `judge_choices_rounds::choose_at` meets its contract: the states tried are the true rejecting ones that are not near yet.
use Prim.Native.Nat.{ℕ, ◌^◌, ◌<◌}
use mathlib.Core.Path.{◌≡◌, refl, ◌∙◌, ap}
use mathlib.Core.Bool.{Bool, ◌&&◌, not}
use native.Mathlib.Omega.{arith}
use lib.ListN.{get_or}
use Rattle.sets.specs.Masks.{bit}
use Rattle.sets.proofs.Masks.{bit_mask}
use Rattle.theory.specs.Word.{places, next_place_lem}
use Rattle.rule_entries.specs.Entries.{rule_of}
use Rattle.rule_entries.proofs.Entries.{accepting-small}
use Rattle.judge_choices_place.proofs.Places.{difference_low, masks-long, masks-low, next_low, letters-fit, row_fits, row-few}
use Rattle.judge_choices_place.proofs.Rounds.{place-of-tried}
use borrow.Author.Rules.{rules}
use Rattle.judge_choices_rounds.proofs.choose_at.Statement.{statement}
use Rattle.judge_choices_rounds.proofs.choose_at.Tie as tie

abbrev at-letter-at-of-at-difference-arg : tie.After-difference-arg-1 → tie.After-letter_at
at-letter-at-of-at-difference-arg c = search

shared-slice-read-difference : tie.Need-bounds-masks-p
shared-slice-read-difference c = let start : tie.Start = search in let p = start.requires in omega (arith, masks-long _ _ _ _ _ _ p.0, p.3)

cast-difference : tie.Need-overflow_cast-h
cast-difference c =
    let start : tie.Start = search in let a = start.args in omega (arith, accepting-small (rule_of a.rule.head a.counts.now a.clauses.now) start.requires.0.passing.formed)

abbrev start_of : tie.After-next_place-k → tie.Start
start_of c = search

-- the place that follows is one
next-is : (c : tie.After-next_place-k) → c.next_place-k.result ≡ next_place_lem (start_of c).args.lead.now (start_of c).args.cycle.now (start_of c).args.p
next-is c = c.next_place-k.ensures (start_of c).args.lead.now (start_of c).args.cycle.now refl refl

follows : (c : tie.After-next_place-k) → c.next_place-k.result < places (start_of c).args.lead.now (start_of c).args.cycle.now
follows c = omega (arith, next-is c, next_low _ _ _ _ _ _ (start_of c).requires.0 (start_of c).args.p (start_of c).requires.3)

shared-slice-read-choose-each : tie.Need-bounds-masks-k
shared-slice-read-choose-each c = let at-next-place : tie.After-next_place-k = search in omega (arith, follows at-next-place, masks-long _ _ _ _ _ _ (start_of at-next-place).requires.0)

element-copy-out-choose-each : tie.Need-bounds-near-k
element-copy-out-choose-each c = let at-next-place : tie.After-next_place-k = search in omega (arith, follows at-next-place, (start_of at-next-place).requires.0.few_places)

mul-choose-each : tie.Need-overflow_mul-p
mul-choose-each c = let start : tie.Start = search in omega (arith, row-few _ _ _ _ _ _ start.requires.0 start.args.p start.requires.3)

choose-each-requires : tie.Need-choose_each-requires
choose-each-requires c κs =
    let start : tie.Start = search in let a = start.args in let p = start.requires in let w = p.0.passing.formed in let n = a.rule.head.n in
    let at-difference : tie.After-difference-rejecting = search in
    let low : at-difference.difference-rejecting.result < 2 ^ a.rule.head.n = rw at-difference.difference-rejecting.ensures
    (difference_low n (get_or a.masks.now a.p 0) a.rule.head.accepting w.few_states (masks-low _ _ _ _ _ _ p.0 a.p)) in
    let at-next-place : tie.After-next_place-k = search in let at-letter-at : tie.After-letter_at = at-letter-at-of-at-difference-arg (search) in
    let at-difference2 : tie.After-difference = search in (
      w,
      p.0.beginnings,
      p.0.components,
      rw at-letter-at.letter_at.ensures (letters-fit _ _ _ _ _ _ p.0 a.p p.3),
      masks-low _ _ _ _ _ _ p.0 at-next-place.next_place-k.result,
      p.1 at-next-place.next_place-k.result (follows at-next-place),
      rw at-difference2.difference.ensures (difference_low n at-difference.difference-rejecting.result (get_or a.near.now a.p 0) w.few_states low),
      omega (arith, row_fits _ _ _ _ _ _ p.0 a.p p.3, p.2),
    )

returns : tie.Need-returns
returns c =
    let start : tie.Start = search in let a = start.args in let r = rule_of a.rule.head a.counts.now a.clauses.now in let w = start.requires.0.passing.formed in
    let all = get_or a.masks.now a.p 0 in let near = get_or a.near.now a.p 0 in let at-difference2 : tie.After-difference = search in
    let at-difference : tie.After-difference-rejecting = search in
    let states : (q : ℕ) → q < a.rule.head.n → bit at-difference2.difference.result q ≡ ((bit all q && not (bit a.rule.head.accepting q)) && not (bit near q))
    = λ q l. let k : q < 8 = omega (arith, w.few_states) in
    ap (λ (m : ℕ). bit m q) at-difference2.difference.ensures ∙ bit_mask 8 _ q k
    ∙ ap (λ (b : Bool). b && not (bit near q)) (ap (λ (m : ℕ). bit m q) at-difference.difference-rejecting.ensures ∙ bit_mask 8 _ q k) in
    let at-letter-at : tie.After-letter_at = search in let at-choose-each : tie.After-choose_each = search in
    place-of-tried r a.lead.now a.cycle.now a.masks.now a.near.now a.p at-difference2.difference.result _ _ _ states
    (rw (at-letter-at.letter_at.ensures, next-is (search)) at at-choose-each.choose_each.ensures)

pub choose_at_spec : {M : Type 1} → statement M
choose_at_spec = tie.close (tie.spec
    (λ c κs. search rules) shared-slice-read-difference cast-difference (λ c κs. search rules) (λ c κs. search rules) (λ c. search rules)
    shared-slice-read-choose-each element-copy-out-choose-each (λ c. search rules) (λ c κs. search rules) mul-choose-each choose-each-requires
    (λ c. search rules) returns)
