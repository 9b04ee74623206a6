-- `judge_place::met_by` meets its contract: the states met and those left that pass the test stay the same.
use Prim.Native.Nat.{◌*◌, ◌%◌, ℕ, ◌-◌, ◌^◌, ◌<◌, ◌≤◌}
use Rattle.sets.specs.Tests.{Set}
use mathlib.Core.Path.{◌≡◌, sym, ◌∙◌}
use mathlib.Core.Bool.{◌&&◌}
use native.Mathlib.Omega.{arith}
use native.Mathlib.Nat.{lt_of_le_of_lt}
use lib.Bits.{and_le_r, or_lt}
use lib.Count.{count_trailing_zeros}
use lib.Pow.{pow-lt}
use Rattle.sets.specs.Masks.{bit}
use Rattle.sets.proofs.Bits.{bit-none, bit_below, mask-unique, shl_one}
use Rattle.sets.proofs.Members.{least_lt}
use Rattle.theory.specs.Rule.{entry, satisfies}
use Rattle.rule_entries.specs.Entries.{rule_of}
use Rattle.judge_place.specs.Starts.{met_by_lem}
use Rattle.judge_place.proofs.Walks.{least-member, walked, walk-yes, walk_no, walk_end}
use Rattle.judge_place.proofs.met_by.Statement.{statement}
use Rattle.judge_place.proofs.met_by.Lts.{else-satisfied, then-satisfied}
use Rattle.judge_place.proofs.met_by.Tie as tie

abbrev invariant-loop : tie.invariant-loop-left
invariant-loop h counts starts clauses a set states met₀ left₀ met left = (left ≤ states) × (met < 256)
    × ((q : ℕ) → walked (λ p. satisfies h.n (bit set) (entry (rule_of h counts clauses) p a)) met left q ≡ (bit states q && satisfies h.n (bit set) (entry (rule_of h counts clauses) q a)))

abbrev decreases-loop : tie.decreases-loop-left
decreases-loop h counts starts clauses a set states met₀ left₀ met left = left

abbrev Start : Type 0
Start = tie.Start invariant-loop decreases-loop

-- the states left are among eight, and the least of them is one
few : (c : tie.In-loop-left invariant-loop decreases-loop) → c.before.loop-left.left < 256
few c = let start : Start = search in omega (arith, start.ranges.states.fits)

below : (c : tie.In-loop-left invariant-loop decreases-loop) → count_trailing_zeros 8 c.before.loop-left.left < 8
below c = least_lt 8 c.before.loop-left.left (omega arith) (few c)

satisfied-requires : tie.Need-satisfied-requires invariant-loop decreases-loop
satisfied-requires c κs = let start : Start = search in let p = start.requires in (
  p.0,
  p.1,
  bit_below start.args.h.n c.before.loop-left.left _ (lt_of_le_of_lt c.before.loop-left.invariant.0 p.3)
      (least-member c.before.loop-left.left (omega arith) (few c)),
  p.2,
)

loop-less : tie.Need-loop-left-smaller invariant-loop decreases-loop
loop-less c = let at-loop : tie.At-loop-left invariant-loop decreases-loop = search in omega (arith, and_le_r at-loop.loop-left.left (at-loop.loop-left.left - 1))

loop-again : tie.Need-loop-left-preserved invariant-loop decreases-loop
loop-again c =
    let at-loop : tie.At-loop-left invariant-loop decreases-loop = search in let l = at-loop.loop-left in let start : Start = search in let a = start.args in
    let f : Set = λ p. satisfies a.h.n (bit a.set) (entry (rule_of a.h a.counts.now a.clauses.now) p a.a) in let pos : 0 < l.left = omega arith in
    let small = few (search) in let q = count_trailing_zeros 8 l.left in let one : 1 * 2 ^ q % 2 ^ 8 ≡ 2 ^ q = shl_one 8 q (below (search)) in
    let test : c.before.satisfied.result ≡ f q = c.before.satisfied.ensures in (
      omega (arith, and_le_r l.left (l.left - 1)),
      elim c.if-satisfied.branch [
        | then-satisfied w ↦ rw (w.met-is, one) (or_lt 8 l.met (2 ^ q) l.invariant.1 (pow-lt (below (search))))
        | else-satisfied w ↦ rw w.met-is l.invariant.1
      ],
      λ p. elim c.if-satisfied.branch [
        | then-satisfied w ↦ rw (w.met-is, one) (walk-yes f l.met l.left pos small (sym test ∙ w.if-satisfied.true) p) ∙ l.invariant.2 p
        | else-satisfied w ↦ rw w.met-is (walk_no f l.met l.left pos small (sym test ∙ w.if-satisfied.false) p) ∙ l.invariant.2 p
      ],
    )

returns : tie.Need-returns invariant-loop decreases-loop
unfolding met_by_lem
returns c = let l = c.before.loop-left in let start : Start = search in let a = start.args in
    let f : Set = λ p. satisfies a.h.n (bit a.set) (entry (rule_of a.h a.counts.now a.clauses.now) p a.a) in let e : l.left ≡ 0 = omega arith in
    mask-unique 8 l.met (λ q. bit a.states q && f q) l.invariant.1 (λ q k. sym (walk_end f l.met q) ∙ (rw e at (l.invariant.2 q)))

pub met_by_spec : {M : Type 1} → statement M
met_by_spec = tie.close (tie.spec
    invariant-loop decreases-loop (λ c. (omega arith, omega arith, λ q. rw (bit-none q))) (λ c. omega (arith, below c)) satisfied-requires
    (λ c. omega (arith, below (search))) (λ c. below (search)) (λ c. omega arith) loop-less loop-again returns)
