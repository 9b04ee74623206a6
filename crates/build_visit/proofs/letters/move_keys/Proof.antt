-- `build_visit::letters::move_keys` meets its contract: a walk along the chain of the earlier core.
use mathlib.Core.Path.{◌∙◌}
use native.Mathlib.Omega.{arith}
use borrow.Author.Rules.{rules}
use Rattle.build_cores.specs.Onward.{onward_in}
use Rattle.build_spec.proofs.Walks.{walk_inside}
use Rattle.build_spec.proofs.Moves.{Turn, turn-start, turn-paired, turn-less, turn-stop, turn-full, turn_end, turn-next}
use Rattle.build_visit.proofs.letters.move_keys.Statement.{statement}
use Rattle.build_visit.proofs.letters.move_keys.Tie as tie

abbrev invariant-loop : tie.invariant-loop-i
invariant-loop keys₀ heads₀ last₀ n from step parts levels g₀ i₀ keys heads last g i =
    Turn step.earlier step.core (onward_in step.ranks parts step.components levels) keys₀ n keys heads last g.m g.full i

abbrev decreases-loop : tie.decreases-loop-i
decreases-loop keys₀ heads₀ last₀ n from step parts levels g₀ i₀ keys heads last g i = i

abbrev Start : Type 0
Start = tie.Start invariant-loop decreases-loop

abbrev At-loop : Type 0
At-loop = tie.At-loop-i invariant-loop decreases-loop

abbrev After-move-key : Type 0
After-move-key = tie.After-move_key-g invariant-loop decreases-loop

loop-holds : tie.Need-loop-i-init invariant-loop decreases-loop
loop-holds c = let start : Start = search in let p = start.requires in rw c.chain_top-i.ensures (turn-start p.0 (omega (arith, p.1)))

mul-x : tie.Need-offset_bounds-keys-i invariant-loop decreases-loop
mul-x c = let start : Start = search in let p = start.requires in omega (arith, walk_inside c.before.loop-i.invariant.walked, p.0.fits, p.0.few)

slice-read-x : tie.Need-bounds-keys-i invariant-loop decreases-loop
slice-read-x c = let at-loop : At-loop = search in let l = at-loop.loop-i in let start : Start = search in
    omega (arith, walk_inside l.invariant.walked, start.requires.0.fits, l.invariant.walked.made.long)

move-key-requires : tie.Need-move_key-g-requires invariant-loop decreases-loop
move-key-requires c κs = let start : Start = search in let p = start.requires in let at-loop : At-loop = search in let l = at-loop.loop-i in
    (l.invariant.walked.made.kept, turn-paired l.invariant p.2, p.3, p.4)

same_length : tie.Need-shape_of-keys-then-g invariant-loop decreases-loop
same_length c = let at-move-key : After-move-key = search in let at-loop : At-loop = search in
    at-move-key.move_key-g.auto.keys ∙ at-loop.loop-i.invariant.walked.made.long

returns : tie.Need-returns-then-g invariant-loop decreases-loop
returns c = let at-loop : At-loop = search in let at-move-key : After-move-key = search in
    turn-full at-loop.loop-i.invariant at-move-key.move_key-g.ensures c.if-g.true

same-length-2 : tie.Need-shape_of-keys-then-i-eq0 invariant-loop decreases-loop
same-length-2 c = let at-loop : At-loop = search in let at-move-key : After-move-key = search in
    at-move-key.move_key-g.auto.keys ∙ at-loop.loop-i.invariant.walked.made.long

returns-2 : tie.Need-returns-then-i-eq0 invariant-loop decreases-loop
returns-2 c = let at-loop : At-loop = search in let at-move-key : After-move-key = search in
    turn_end at-loop.loop-i.invariant at-move-key.move_key-g.ensures c.if-i-eq0.true

loop-less : tie.Need-loop-i-smaller invariant-loop decreases-loop
loop-less c = let at-loop : At-loop = search in let start : Start = search in turn-less at-loop.loop-i.invariant start.requires.0 c.if-i-eq0.false

loop-again : tie.Need-loop-i-preserved invariant-loop decreases-loop
loop-again c = let at-loop : At-loop = search in let at-move-key : After-move-key = search in let start : Start = search in
    turn-next at-loop.loop-i.invariant at-move-key.move_key-g.ensures c.before.if-g.false start.requires.0 c.if-i-eq0.false

pub move_keys_spec : {M : Type 1} → statement M
move_keys_spec = tie.close (tie.spec
    invariant-loop decreases-loop (λ c κs. search rules) (λ c. search rules) loop-holds mul-x slice-read-x move-key-requires same_length returns same-length-2
    returns-2 loop-less loop-again (λ c. c.before.loop-i.invariant.walked.made.long)
    (λ c. turn-stop c.before.loop-i.invariant (omega (arith, c.loop-i-test.false))))
