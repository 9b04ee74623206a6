-- `sheet_words::count_words` meets its contract.
use Prim.Native.Nat.{◌-◌, ◌≤◌}
use native.Mathlib.Omega.{arith}
use lib.ListN.{length}
use Rattle.sheet_words.proofs.Places.{CountedTo, counted_next, counted-end}
use Rattle.sheet_words.proofs.count_words.Statement.{statement}
use Rattle.sheet_words.proofs.count_words.Tie as tie

abbrev invariant-loop : tie.invariant-loop-at
invariant-loop sheet n₀ at₀ n at = (n ≤ at) × (at ≤ length sheet) × CountedTo sheet at n

abbrev decreases-loop : tie.decreases-loop-at
decreases-loop sheet n₀ at₀ n at = length sheet - at

loop-again : tie.Need-loop-at-preserved invariant-loop decreases-loop
loop-again c =
    let at-loop : tie.At-loop-at invariant-loop decreases-loop = search in let l = at-loop.loop-at in let e = c.next_word-at.ensures in let start : tie.Start invariant-loop decreases-loop = search in
    (omega (arith, e), e.within, counted_next start.args.sheet.now l.at c.next_word-at.result l.n e l.invariant.2)

returns : tie.Need-returns invariant-loop decreases-loop
returns c = let l = c.before.loop-at in let start : tie.Start invariant-loop decreases-loop = search in counted-end start.args.sheet.now l.at l.n (omega arith) l.invariant.2

pub count_words_spec : {M : Type 1} → statement M
count_words_spec = tie.close (tie.spec
    invariant-loop decreases-loop (λ c. (omega arith, omega arith, omega arith)) (λ c κs. omega arith) (λ c. omega arith) (λ c. omega arith) loop-again returns)
