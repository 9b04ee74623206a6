-- `sheet_judge::judge_words` meets its contract: the words before byte at are judged.
use Prim.Native.Nat.{◌-◌, ◌<◌}
use mathlib.Core.Path.{refl}
use native.Mathlib.Omega.{arith}
use lib.ListN.{length, length-take, length-drop}
use borrow.Author.Rules.{rules}
use Rattle.rule_entries.specs.Entries.{rule_of}
use Rattle.rule_entries.proofs.Entries.{entries-few}
use Rattle.sheet_spec.specs.Words.{words_of}
use Rattle.sheet_judge.proofs.Loop.{Done, done-start, words_more, done_next, done_end}
use Rattle.sheet_judge.proofs.judge_words.Statement.{statement}
use Rattle.sheet_judge.proofs.judge_words.Tie as tie

abbrev invariant-loop : tie.invariant-loop-at
invariant-loop counts clauses sheet answers₀ masks₀ starts rule from₀ size₀ filled₀ cycles₀ at₀ i₀ answers masks from size filled cycles at i =
    Done (rule_of rule.head counts clauses) sheet answers₀ masks₀ answers masks from size filled cycles at i

abbrev decreases-loop : tie.decreases-loop-at
decreases-loop counts clauses sheet answers₀ masks₀ starts rule from₀ size₀ filled₀ cycles₀ at₀ i₀ answers masks from size filled cycles at i = length sheet - at

abbrev In-loop : Type 0
In-loop = tie.In-loop-at invariant-loop decreases-loop

starts-of-requires : tie.Need-starts_of-starts-requires invariant-loop decreases-loop
starts-of-requires c κs =
    let start : tie.Start invariant-loop decreases-loop = search in entries-few (rule_of start.args.h start.args.counts.now start.args.clauses.now) start.requires.0.formed

abbrev start_of : In-loop → tie.Start invariant-loop decreases-loop
start_of c = search

-- there is room for one more word
more : (c : In-loop) → c.before.loop-at.i < length (words_of (start_of c).args.sheet.now)
more c = words_more c.before.loop-at.invariant c.loop-at-test.true

part-judge-word-end : tie.Need-slice_bounds-judge_word-end-in-loop-at-3 invariant-loop decreases-loop
part-judge-word-end c = let in-loop : In-loop = search in omega (arith, more in-loop, (start_of in-loop).requires.3, in-loop.before.loop-at.invariant.masked.long)

judge-word-requires : tie.Need-judge_word-word-requires invariant-loop decreases-loop
judge-word-requires c κs = let in-loop : In-loop = search in let z = (start_of in-loop).requires in let D = in-loop.before.loop-at.invariant in
    let at-starts-of : tie.After-starts_of-starts invariant-loop decreases-loop = search in let at-closures : tie.After-closures-reach invariant-loop decreases-loop = search in (
      record {
        passing = z.0;
        beginnings = at-starts-of.starts_of-starts.ensures;
        closed = at-closures.closures-reach.ensures;
        cycles = D.held;
        room = omega (arith, more in-loop, z.1, D.few);
      },
      in-loop.loop-at-test.true,
      simp (length-take, length-drop) (omega (arith, more in-loop, z.3, D.masked.long)),
    )

slice-write-answers : tie.Need-bounds-answers-i invariant-loop decreases-loop
slice-write-answers c = let in-loop : In-loop = search in omega (arith, more in-loop, (start_of in-loop).requires.2, in-loop.before.loop-at.invariant.answered.long)

abbrev turn-of : tie.After-next_word-at invariant-loop decreases-loop → In-loop
turn-of c = search

loop-again : tie.Need-loop-at-preserved invariant-loop decreases-loop
loop-again c = let t = turn-of c in let z = (start_of t).requires in let at-judge-word : tie.After-judge_word-word invariant-loop decreases-loop = search in
    done_next t.before.loop-at.invariant t.loop-at-test.true c.next_word-at.ensures at-judge-word.judge_word-word.ensures z.2 z.3

pub judge_words_spec : {M : Type 1} → statement M
judge_words_spec = tie.close (tie.spec
    invariant-loop decreases-loop starts-of-requires (λ c κs. search rules) (λ c. done-start refl refl refl) (λ c. omega (arith, more c, (start_of c).requires.1))
    (λ c. omega (arith, more c, (start_of c).requires.1)) (λ c. let at-loop : tie.At-loop-at invariant-loop decreases-loop = search in omega (arith, at-loop.loop-at.invariant.held.parts.froms))
    (λ c. let at-loop : tie.At-loop-at invariant-loop decreases-loop = search in omega (arith, at-loop.loop-at.invariant.held.parts.sizes))
    (λ c. let at-loop : tie.At-loop-at invariant-loop decreases-loop = search in omega (arith, at-loop.loop-at.invariant.held.room)) (λ c. omega arith) (λ c. omega arith) part-judge-word-end
    judge-word-requires slice-write-answers (λ c κs. let in-loop : In-loop = search in in-loop.loop-at-test.true)
    (λ c. omega (arith, more (turn-of c), (start_of (turn-of c)).requires.1)) (λ c. omega (arith, c.next_word-at.ensures, (turn-of c).loop-at-test.true)) loop-again
    (λ c. c.before.loop-at.invariant.answered.long) (λ c. c.before.loop-at.invariant.masked.long) (λ c. done_end c.before.loop-at.invariant (omega (arith, c.loop-at-test.false))))
