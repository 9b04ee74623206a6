-- `visit_all` meets its contract.
use mathlib.Core.Path.{◌≡◌, ◌∙◌}
use Prim.Native.Nat.{◌+◌, ◌-◌, ◌*◌, ◌/◌, ◌≤◌, ◌<◌}
use native.Mathlib.Omega.{arith}
use borrow.Author.Rules.{rules}
use lib.ListN.{length}
use Rattle.stricter_laws.specs.Pairs.{PairStep}
use Rattle.stricter_laws.proofs.Rows.{fits-same}
use Rattle.stricter_laws.specs.Forest.{kind_in, Waits, Passed}
use Rattle.stricter_laws.proofs.Pairs.{row-end, Parts, pair_parts}
use Rattle.stricter_laws.proofs.Passes.{passed_over, passed-turn}
use Rattle.stricter_word.proofs.explore.visit_all.Statement.{statement}
use Rattle.stricter_word.proofs.explore.visit_all.Tie as tie

abbrev invariant-loop : tie.invariant-loop-x
invariant-loop lcodes left rcodes right marks₀ nb changed₀ x₀ marks changed x =
    (x ≤ length marks₀) × (x < length marks₀ → Waits marks x) × Passed (PairStep (length rcodes) left right) (kind_in lcodes rcodes) 0 x marks₀ marks changed

abbrev decreases-loop : tie.decreases-loop-x
decreases-loop lcodes left rcodes right marks₀ nb changed₀ x₀ marks changed x = length marks₀ - x

abbrev Start : Type 0
Start = tie.Start invariant-loop decreases-loop

abbrev In-loop : Type 0
In-loop = tie.In-loop-x invariant-loop decreases-loop

loop-holds : tie.Need-loop-x-init invariant-loop decreases-loop
loop-holds c = let start : Start = search in let a = start.args in let n = c.next_waiting-x.ensures in
    (n.within, (λ h. let w = n.found h in record { big = w.0; small = w.1 }), passed_over 0 _ a.marks.now n.none)

abbrev start-of-in-loop : In-loop → Start
start-of-in-loop c = search

-- x is below the number of marks
below : (c : In-loop) → c.before.loop-x.x < length (start-of-in-loop c).args.marks.now
below c = omega (arith, c.loop-x-test.true, c.before.loop-x.invariant.2.long)

-- its two numbers
numbers : (c : In-loop) → Parts (length (start-of-in-loop c).args.lcodes.now) (length (start-of-in-loop c).args.rcodes.now) c.before.loop-x.x
numbers c = let a = (start-of-in-loop c).args in pair_parts c.before.loop-x.x (start-of-in-loop c).requires (below c)

-- the row ends within the marks
ends : (c : In-loop) → c.before.loop-x.x / length (start-of-in-loop c).args.rcodes.now * length (start-of-in-loop c).args.rcodes.now + length
    (start-of-in-loop c).args.rcodes.now ≤ length (start-of-in-loop c).args.marks.now
ends c = let a = (start-of-in-loop c).args in row-end _ (start-of-in-loop c).requires (numbers c).first (numbers c).some

cut-row-requires : tie.Need-cut_row-cuts-requires invariant-loop decreases-loop
cut-row-requires c κs = let start : Start = search in (start.requires.paired.ascend_a, omega (arith, (numbers c).first, start.requires.few_a))

visit-row-requires : tie.Need-visit_row-requires invariant-loop decreases-loop
visit-row-requires c κs =
    let at-loop : tie.At-loop-x invariant-loop decreases-loop = search in let l = at-loop.loop-x in let n = numbers (search) in let start : Start = search in
    let at-cut-row : tie.After-cut_row-cuts invariant-loop decreases-loop = search in (
      fits-same l.marks l.invariant.2.long start.requires,
      at-cut-row.cut_row-cuts.ensures,
      n.first,
      n.second,
      rw n.whole (l.invariant.1 (below (search))),
    )

next-waiting-requires-2 : tie.Need-next_waiting-x-requires-in-loop-x invariant-loop decreases-loop
next-waiting-requires-2 c κs =
    let h = ends (search) in let at-loop : tie.At-loop-x invariant-loop decreases-loop = search in let at-visit-row : tie.After-visit_row invariant-loop decreases-loop = search in
    (omega (arith, at-visit-row.visit_row.ensures.long, at-loop.loop-x.invariant.2.long), omega arith)

loop-less : tie.Need-loop-x-smaller invariant-loop decreases-loop
loop-less c = let in-loop : In-loop = search in let n = numbers in-loop in omega (arith, c.next_waiting-x-in-loop-x.ensures.ordered, n.whole, n.second, below in-loop)

loop-again : tie.Need-loop-x-preserved invariant-loop decreases-loop
loop-again c =
    let start : Start = search in let a = start.args in let at-loop : tie.At-loop-x invariant-loop decreases-loop = search in let l = at-loop.loop-x in
    let n = c.next_waiting-x-in-loop-x.ensures in let nb = length a.rcodes.now in let at-visit-row : tie.After-visit_row invariant-loop decreases-loop = search in
    let long : _ ≡ length a.marks.now = at-visit-row.visit_row.ensures.long ∙ l.invariant.2.long in let in-loop : In-loop = search in (
      omega (arith, n.within, long),
      (λ h. let w = n.found (omega (arith, h, long)) in record { big = w.0; small = w.1 }),
      passed-turn _ l.invariant.2 (rw (numbers in-loop).whole at at-visit-row.visit_row.ensures) n.none,
    )

returns : tie.Need-returns invariant-loop decreases-loop
returns c = let l = c.before.loop-x in let start : Start = search in
    let e : l.x ≡ length start.args.marks.now = omega (arith, l.invariant.0, l.invariant.2.long, c.loop-x-test.false) in rw e at l.invariant.2

pub visit_all_spec : {M : Type 1} → statement M
visit_all_spec = tie.close (tie.spec
    invariant-loop decreases-loop (λ c κs. search rules) loop-holds (λ c. omega (arith, (numbers c).some)) cut-row-requires (λ c. omega (arith, (numbers (search)).some)) visit-row-requires
    (λ c. let h = ends (search) in omega arith) (λ c. let h = ends (search) in omega arith) next-waiting-requires-2 loop-less loop-again (λ c. c.before.loop-x.invariant.2.long)
    returns)
