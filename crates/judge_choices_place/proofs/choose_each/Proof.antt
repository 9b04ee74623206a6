-- `judge_choices_place::choose_each` meets its contract: the states found and those left that meet a clause stay the same.
use Prim.Native.Nat.{ℕ, ◌+◌, ◌-◌, ◌*◌, ◌%◌, ◌^◌, ◌<◌, ◌≤◌}
use mathlib.Core.Path.{◌≡◌, refl, sym, ap, ◌∙◌}
use mathlib.Core.Logic.{◌⊎◌}
use mathlib.Core.Bool.{◌&&◌, cond}
use mathlib.Core.List.{List}
use native.Mathlib.Omega.{arith}
use native.Mathlib.Nat.{lt_of_le_of_lt}
use lib.Bits.{bit_and, bit_or, and_le_r, or_lt}
use lib.Count.{count_trailing_zeros}
use lib.ListN.{length, get_or}
use lib.Pow.{pow-lt, pow_pos}
use Rattle.sets.specs.Tests.{Set}
use Rattle.sets.specs.Masks.{bit}
use Rattle.sets.proofs.Bits.{bit-none, bit_below, shl_one}
use Rattle.theory.specs.Rule.{entry, satisfies}
use Rattle.rule_entries.specs.Entries.{rule_of}
use Rattle.std.specs.Prelude.{is_some}
use Rattle.rule_entries.specs.Met.{met_of}
use Rattle.rule_entries.proofs.Clauses.{met-entry}
use Rattle.rule_entries.proofs.Entries.{entry-states}
use Rattle.judge_place.proofs.Walks.{least-member, walked, walk-yes, walk_no, walk_end}
use Rattle.judge_choices_spec.specs.ChoicesComputed.{aim_of}
use Rattle.judge_choices_spec.specs.Rounds.{put_met, met_number}
use Rattle.judge_choices_place.proofs.Tries.{aim-set, put-length, here-yes, here-no, others-on}
use borrow.Author.Rules.{rules}
use Rattle.judge_choices_place.proofs.choose_each.Statement.{statement}
use Rattle.judge_choices_place.proofs.choose_each.Lts.{else-choose, then-choose}
use Rattle.judge_choices_place.proofs.choose_each.Tie as tie

abbrev invariant-loop : tie.invariant-loop-left
invariant-loop counts starts clauses a all near states choices₀ base h classes found₀ left₀ choices found left = (left ≤ states)
    × (found < 2 ^ h.n)
    × ((q : ℕ) → walked (λ p. satisfies h.n (bit (aim_of (rule_of h counts clauses) all near p)) (entry (rule_of h counts clauses) p a)) found left q
    ≡ (bit states q && satisfies h.n (bit (aim_of (rule_of h counts clauses) all near q)) (entry (rule_of h counts clauses) q a)))
    × (length choices ≡ length choices₀)
    × ((q : ℕ) → q < h.n → get_or choices (base + q) 0 ≡ cond (bit found q) (met_number (rule_of h counts clauses) a all near q) (get_or choices₀ (base + q) 0))
    × ((i : ℕ) → (i < base) ⊎ (base + h.n ≤ i) → get_or choices i 0 ≡ get_or choices₀ i 0)

abbrev decreases-loop : tie.decreases-loop-left
decreases-loop counts starts clauses a all near states choices₀ base h classes found₀ left₀ choices found left = left

abbrev At-loop : Type 0
At-loop = tie.At-loop-left invariant-loop decreases-loop

abbrev In-loop : Type 0
In-loop = tie.In-loop-left invariant-loop decreases-loop

loop-holds : tie.Need-loop-left-init invariant-loop decreases-loop
loop-holds c = let start : tie.Start invariant-loop decreases-loop = search in (omega arith, pow_pos start.args.rule.head.n, λ q. rw (bit-none q), refl, λ q l. rw (bit-none q), λ i k. refl)

abbrev start_of : In-loop → tie.Start invariant-loop decreases-loop
start_of c = search

-- the states left are the rule's, and the least of them is one
least-left : (c : At-loop) → 0 < c.loop-left.left → let start : tie.Start invariant-loop decreases-loop = search in
    count_trailing_zeros 8 c.loop-left.left < start.args.rule.head.n
least-left c some =
    let start : tie.Start invariant-loop decreases-loop = search in
    bit_below start.args.rule.head.n c.loop-left.left _ (lt_of_le_of_lt c.loop-left.invariant.0 start.requires.6)
    (least-member c.loop-left.left some (omega (arith, start.ranges.states)))

below : (c : In-loop) → count_trailing_zeros 8 c.before.loop-left.left < (start_of c).args.rule.head.n
below c = least-left c.before (omega arith)

add-choose : tie.Need-overflow_add-base invariant-loop decreases-loop
add-choose c = let start = start_of (search) in omega (arith, below (search), start.requires.7, start.well_formed)

choose-requires : tie.Need-choose-requires invariant-loop decreases-loop
choose-requires c κs = let start = start_of (search) in let p = start.requires in let at-loop : tie.At-loop-left invariant-loop decreases-loop = search in
    (p.0, p.1, below (search), p.3, omega (arith, below (search), p.7, at-loop.loop-left.invariant.3))

low : (c : At-loop) → 0 < c.loop-left.left → count_trailing_zeros 8 c.loop-left.left < 8
low c some = let start : tie.Start invariant-loop decreases-loop = search in omega (arith, least-left c some, start.requires.0.few_states)

loop-less : tie.Need-loop-left-smaller invariant-loop decreases-loop
loop-less c = let at-loop : tie.At-loop-left invariant-loop decreases-loop = search in omega (arith, and_le_r at-loop.loop-left.left (at-loop.loop-left.left - 1))

loop-again : tie.Need-loop-left-preserved invariant-loop decreases-loop
loop-again c =
    let in-loop : In-loop = search in let start = start_of in-loop in let l = in-loop.before.loop-left in let a = start.args in let p = start.requires in
    let r = rule_of a.rule.head a.counts.now a.clauses.now in let f : Set = λ x. satisfies a.rule.head.n (bit (aim_of r a.all a.near x)) (entry r x a.a) in
    let q = count_trailing_zeros 8 l.left in let k = below in-loop in let pos : 0 < l.left = omega arith in let small : l.left < 256 = omega (arith, start.ranges.states) in
    let one : 1 * 2 ^ q % 2 ^ 8 ≡ 2 ^ q = shl_one 8 q (low in-loop.before (omega arith)) in let class = get_or a.rule.classes q 0 in let at-difference : tie.After-difference invariant-loop decreases-loop = search in
    let aims : bit_or at-difference.difference.result (bit_and a.near class) ≡ aim_of r a.all a.near q
    = ap (λ (x : ℕ). bit_or x (bit_and a.near class)) at-difference.difference.ensures ∙ aim-set r p.0.few_states a.all a.near q class p.4 p.5 (p.2.at q k) in
    let m = met_of (aim_of r a.all a.near q) (entry r q a.a) in let at-choose : tie.After-choose invariant-loop decreases-loop = search in let chosen = at-choose.choose.ensures in
    let met : at-choose.choose.result ≡ is_some m = chosen.0 ∙ ap (λ (s : ℕ). is_some (met_of s (entry r q a.a))) aims in
    let new = chosen.1 ∙ ap (λ (s : ℕ). put_met (met_of s (entry r q a.a)) (a.base + q) l.choices) aims in
    let test : at-choose.choose.result ≡ f q = met ∙ met-entry a.rule.head.n (aim_of r a.all a.near q) (entry r q a.a) p.0.few_states (entry-states r p.0 q a.a k p.3) in
    let room : a.base + a.rule.head.n ≤ length l.choices = omega (arith, p.7, l.invariant.3) in let number : ℕ → ℕ = met_number r a.a a.all a.near in (
      omega (arith, and_le_r l.left (l.left - 1)),
      elim c.if-choose.branch [
        | then-choose w ↦ rw (w.found-is, one) (or_lt a.rule.head.n l.found (2 ^ q) l.invariant.1 (pow-lt k))
        | else-choose w ↦ rw w.found-is l.invariant.1
      ],
      λ x. elim c.if-choose.branch [
        | then-choose w ↦ rw (w.found-is, one) (walk-yes f l.found l.left pos small (sym test ∙ w.if-choose.true) x) ∙ l.invariant.2 x
        | else-choose w ↦ rw w.found-is (walk_no f l.found l.left pos small (sym test ∙ w.if-choose.false) x) ∙ l.invariant.2 x
      ],
      ap length new ∙ put-length m (a.base + q) l.choices ∙ l.invariant.3,
      λ x i. ap (λ (ys : List ℕ). get_or ys (a.base + x) 0) new ∙ elim c.if-choose.branch [
        | then-choose w ↦ rw (w.found-is, one) (here-yes a.rule.head.n a.base number a.choices.now l.choices l.found room l.invariant.4 m q k (sym met ∙ w.if-choose.true) refl x i)
        | else-choose w ↦ rw w.found-is (here-no a.rule.head.n a.base number a.choices.now l.choices l.found room l.invariant.4 m q k (sym met ∙ w.if-choose.false) x i)
      ],
      λ i j. ap (λ (ys : List ℕ). get_or ys i 0) new ∙ others-on a.rule.head.n a.base number a.choices.now l.choices l.found room l.invariant.4 m q k l.invariant.5 i j,
    )

returns : tie.Need-returns invariant-loop decreases-loop
returns c =
    let l = c.before.loop-left in let start : tie.Start invariant-loop decreases-loop = search in let a = start.args in let r = rule_of a.rule.head a.counts.now a.clauses.now in
    let f : Set = λ x. satisfies a.rule.head.n (bit (aim_of r a.all a.near x)) (entry r x a.a) in let e : l.left ≡ 0 = omega arith in
    record { long = l.invariant.3; low = l.invariant.1; those = λ q. sym (walk_end f l.found q) ∙ (rw e at (l.invariant.2 q)); here = l.invariant.4; others = l.invariant.5 }

pub choose_each_spec : {M : Type 1} → statement M
choose_each_spec = tie.close (tie.spec
    invariant-loop decreases-loop loop-holds (λ c. omega (arith, low c.before (omega arith))) (λ c. omega (arith, low c.before (omega arith))) (λ c κs. search rules) add-choose choose-requires
    (λ c. omega (arith, low (search) (omega arith))) (λ c. omega (arith, low (search) (omega arith)))
    (λ c. omega arith) loop-less loop-again (λ c. c.before.loop-left.invariant.3) returns)
