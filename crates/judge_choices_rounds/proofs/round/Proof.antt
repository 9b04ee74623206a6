-- `judge_choices_rounds::round` meets its contract: a round at the places that are no longer left.
use Prim.Native.Nat.{ℕ, ◌-◌, ◌^◌, ◌≤◌, ◌<◌}
use mathlib.Core.Path.{◌≡◌, sym, ◌∙◌}
use mathlib.Core.Bool.{true, ◌&&◌, not, and-true, and-not_self}
use native.Mathlib.Omega.{arith}
use native.Mathlib.Nat.{lt_of_le_of_lt, lt_of_lt_of_le}
use lib.Bits.{bit_and, and_le_r}
use lib.Count.{count_trailing_zeros}
use lib.ListN.{length, length-set}
use lib.Pow.{pow_mono}
use Rattle.sets.specs.Masks.{bit}
use Rattle.sets.proofs.Bits.{bit_below, bit-none}
use Rattle.theory.specs.Word.{places}
use Rattle.rule_entries.specs.Entries.{rule_of}
use Rattle.judge_choices_spec.specs.Rounds.{Round}
use Rattle.judge_choices_place.proofs.Places.{least-in, still-left, was-left, now-done, mark-lt}
use Rattle.judge_choices_place.proofs.Rounds.{round-start, round-step, round-ext}
use Rattle.judge_choices_rounds.proofs.round.Statement.{statement}
use Rattle.judge_choices_rounds.proofs.round.Tie as tie

abbrev invariant-loop : tie.invariant-loop-left
invariant-loop rule counts starts clauses lead cycle masks near₀ choices₀ work before changed₀ left₀ near choices changed left =
    (length near ≡ 64) × (left ≤ work) × ((x : ℕ) → bit left x ≡ true → bit work x ≡ true)
    × Round (rule_of rule.head counts clauses) lead cycle masks near₀ (λ x. bit work x && not (bit left x)) choices₀ choices near changed

abbrev decreases-loop : tie.decreases-loop-left
decreases-loop rule counts starts clauses lead cycle masks near₀ choices₀ work before changed₀ left₀ near choices changed left = left

abbrev Start : Type 0
Start = tie.Start invariant-loop decreases-loop

abbrev In-loop : Type 0
In-loop = tie.In-loop-left invariant-loop decreases-loop

loop-holds : tie.Need-loop-left-init invariant-loop decreases-loop
loop-holds c = let start : Start = search in let a = start.args in let p = start.requires in (
  p.4,
  omega arith,
  λ x t. t,
  (round-start (rule_of a.rule.head a.counts.now a.clauses.now) a.lead.now a.cycle.now a.masks.now a.near.now (λ x. bit a.work x && not (bit a.work x))
      a.choices.now
      (λ x l. and-not_self (bit a.work x)) p.1),
)

abbrev start-of-in-loop : In-loop → Start
start-of-in-loop c = search

-- what is left is places of the word, and the least of them is one
small : (c : In-loop) → c.before.loop-left.left < 2 ^ places (start-of-in-loop c).args.lead.now (start-of-in-loop c).args.cycle.now
small c = lt_of_le_of_lt c.before.loop-left.invariant.1 (start-of-in-loop c).requires.3

few : (c : In-loop) → c.before.loop-left.left < 2 ^ 64
few c = let start : Start = search in lt_of_lt_of_le (small c) (pow_mono start.requires.0.few_places)

below : (c : In-loop) → count_trailing_zeros 64 c.before.loop-left.left < places (start-of-in-loop c).args.lead.now (start-of-in-loop c).args.cycle.now
below c = bit_below (places (start-of-in-loop c).args.lead.now (start-of-in-loop c).args.cycle.now) c.before.loop-left.left _ (small c)
    (least-in 64 c.before.loop-left.left (omega arith) (few c))

low : (c : In-loop) → count_trailing_zeros 64 c.before.loop-left.left < 64
low c = let start : Start = search in omega (arith, below c, start.requires.0.few_places)

choose-at-requires : tie.Need-choose_at-found-requires invariant-loop decreases-loop
choose-at-requires c κs = let start : Start = search in let p = start.requires in let at-loop : tie.At-loop-left invariant-loop decreases-loop = search in
    (p.0, p.1, omega (arith, p.2, at-loop.loop-left.invariant.3.long), below (search))

loop-less : tie.Need-loop-left-smaller invariant-loop decreases-loop
loop-less c = let at-loop : tie.At-loop-left invariant-loop decreases-loop = search in omega (arith, and_le_r at-loop.loop-left.left (at-loop.loop-left.left - 1))

loop-again : tie.Need-loop-left-preserved invariant-loop decreases-loop
loop-again c =
    let at-loop : tie.At-loop-left invariant-loop decreases-loop = search in let l = at-loop.loop-left in let start : Start = search in let a = start.args in let p = start.requires in
    let r = rule_of a.rule.head a.counts.now a.clauses.now in let x = count_trailing_zeros 64 l.left in let in-loop : In-loop = search in
    let pos : 0 < l.left = omega (arith, in-loop.loop-left-test.true) in let s = few in-loop in let k = below in-loop in let m = c.mark-changed.ensures in
    let at-choose-at : tie.After-choose_at-found invariant-loop decreases-loop = search in (
      length-set l.near x _ ∙ l.invariant.0,
      omega (arith, and_le_r l.left (l.left - 1)),
      λ y t. l.invariant.2 y (still-left 64 l.left pos s y t),
      round-step r a.lead.now a.cycle.now a.masks.now a.near.now (λ y. bit a.work y && not (bit l.left y)) (λ y. bit a.work y && not (bit (bit_and l.left (l.left - 1)) y))
          a.choices.now l.choices _ l.near l.changed c.mark-changed.result x at-choose-at.choose_at-found.result k l.invariant.0
          p.0.few_places
          (was-left 64 l.left pos s a.work) (λ y j. now-done 64 l.left pos s a.work l.invariant.2 y) (p.1 x k) m
          (mark-lt (places a.lead.now a.cycle.now) l.changed c.mark-changed.result x at-choose-at.choose_at-found.result k l.invariant.3.few m)
          l.invariant.3 at-choose-at.choose_at-found.ensures,
    )

returns : tie.Need-returns invariant-loop decreases-loop
returns c = let l = c.before.loop-left in let start : Start = search in let a = start.args in let e : l.left ≡ 0 = omega arith in (
  round-ext (rule_of a.rule.head a.counts.now a.clauses.now) a.lead.now a.cycle.now a.masks.now a.near.now (λ y. bit a.work y && not (bit l.left y))
      (bit a.work) a.choices.now l.choices l.near l.changed (λ y k. rw (e, bit-none y) (sym (and-true (bit a.work y)))) l.invariant.3,
  l.invariant.0,
)

pub round_spec : {M : Type 1} → statement M
round_spec = tie.close (tie.spec
    invariant-loop decreases-loop loop-holds (λ c. omega (arith, low c)) choose-at-requires (λ c. low (search))
    (λ c. low (search)) (λ c κs. low (search)) (λ c. omega arith) loop-less loop-again (λ c. c.before.loop-left.invariant.3.long) returns)
