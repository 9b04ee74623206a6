-- `rule_entries::first_met` meets its contract. Of the clauses from j on the first that is met is the answer; of the clause at hand the states passed are in the set.
use Prim.Native.Nat.{◌<◌, ◌≤◌, ◌-◌}
use mathlib.Core.Path.{◌≡◌, refl, ap, sym, ◌∙◌}
use mathlib.Core.Bool.{true, false}
use native.Mathlib.Omega.{arith}
use lib.ListN.{length, drop, get_or}
use lib.Count.{count_trailing_zeros}
use lib.Bits.{and_le_r}
use Rattle.sets.specs.Masks.{bit, inside}
use Rattle.rule_entries.specs.Met.{met_from}
use Rattle.sets.proofs.Members.{least_lt}
use Rattle.rule_entries.proofs.Clauses.{missing, present, no-state, met_next, met-here, met-none}
use Rattle.rule_entries.proofs.first_met.Statement.{statement}
use Rattle.rule_entries.proofs.first_met.Tie as tie

abbrev invariant-loop : tie.invariant-loop-left
invariant-loop set clauses j₀ left₀ j left = (j ≡ j₀) × (left < 256) × (inside 8 (bit set) (get_or clauses j₀ 0) ≡ inside 8 (bit set) left)

abbrev decreases-loop : tie.decreases-loop-left
decreases-loop set clauses j₀ left₀ j left = left

abbrev invariant-clauses : tie.invariant-clauses
invariant-clauses set clauses j₀ j = (j ≤ length clauses) × (met_from set clauses 0 ≡ met_from set (drop j clauses) j)

abbrev decreases-clauses : tie.decreases-clauses
decreases-clauses set clauses j₀ j = length clauses - j

abbrev Start : Type 0
Start = tie.Start invariant-loop decreases-loop invariant-clauses decreases-clauses

loop-holds : tie.Need-loop-left-init invariant-loop decreases-loop invariant-clauses decreases-clauses
loop-holds c = let at-clauses : tie.At-clauses invariant-loop decreases-loop invariant-clauses decreases-clauses = search in (refl, omega (arith, c.shared_slice_known-1.given at-clauses.clauses.j), refl)

-- the least state of what is left is a state
below : (c : tie.In-loop-left invariant-loop decreases-loop invariant-clauses decreases-clauses) → count_trailing_zeros 8 c.before.loop-left.left < 8
below c = least_lt 8 c.before.loop-left.left (omega arith) (omega arith)

clauses-again : tie.Need-clauses-preserved invariant-loop decreases-loop invariant-clauses decreases-clauses
clauses-again c = let start : Start = search in let s = start.args.set in let cl = start.args.clauses.now in
    let at-loop : tie.At-loop-left invariant-loop decreases-loop invariant-clauses decreases-clauses = search in let l = at-loop.loop-left.left in
    let at-clauses : tie.At-clauses invariant-loop decreases-loop invariant-clauses decreases-clauses = search in let j = at-clauses.clauses.j in
    let gone : inside 8 (bit s) (get_or cl j 0) ≡ false = at-loop.loop-left.invariant.2 ∙ missing s l (omega arith) (omega arith) c.if-set-q-eq0.true in (
      omega arith,
      rw at-loop.loop-left.invariant.0 (at-clauses.clauses.invariant.1 ∙ met_next s cl j (omega arith) gone),
    )

loop-less : tie.Need-loop-left-smaller invariant-loop decreases-loop invariant-clauses decreases-clauses
loop-less c = let at-loop : tie.At-loop-left invariant-loop decreases-loop invariant-clauses decreases-clauses = search in omega (arith, and_le_r at-loop.loop-left.left (at-loop.loop-left.left - 1))

loop-again : tie.Need-loop-left-preserved invariant-loop decreases-loop invariant-clauses decreases-clauses
loop-again c =
    let start : Start = search in let s = start.args.set in let at-loop : tie.At-loop-left invariant-loop decreases-loop invariant-clauses decreases-clauses = search in
    let l = at-loop.loop-left.left in (
      at-loop.loop-left.invariant.0,
      omega (arith, and_le_r l (l - 1)),
      at-loop.loop-left.invariant.2 ∙ present s l (omega arith) (omega arith) c.if-set-q-eq0.false,
    )

returns : tie.Need-returns-then-clauses-j invariant-loop decreases-loop invariant-clauses decreases-clauses
returns c = let start : Start = search in let s = start.args.set in let cl = start.args.clauses.now in
    sym (c.before.clauses.invariant.1 ∙ met-none s cl c.before.clauses.j c.if-clauses-j.true)

returns-2 : tie.Need-returns-after-loop-left invariant-loop decreases-loop invariant-clauses decreases-clauses
returns-2 c = let start : Start = search in let s = start.args.set in let cl = start.args.clauses.now in
    let at-clauses : tie.At-clauses invariant-loop decreases-loop invariant-clauses decreases-clauses = search in let j = at-clauses.clauses.j in
    let all : inside 8 (bit s) (get_or cl j 0) ≡ true = c.before.loop-left.invariant.2 ∙ ap (inside 8 (bit s)) c.loop-left-test.false ∙ no-state (bit s) in
    rw c.before.loop-left.invariant.0 (sym (at-clauses.clauses.invariant.1 ∙ met-here s cl j (omega arith) all))

pub first_met_spec : {M : Type 1} → statement M
first_met_spec = tie.close (tie.spec
    invariant-loop decreases-loop invariant-clauses decreases-clauses (λ c. (omega arith, refl)) (λ c. omega arith) loop-holds (λ c. omega (arith, below c)) (λ c. below c)
    (λ c. omega arith) (λ c. omega arith) clauses-again (λ c. omega arith) loop-less loop-again returns returns-2)
