-- `build_transitions::sources::emit_sources` meets its contract: a walk along the chain of the earlier core.
use mathlib.Core.Path.{◌∙◌}
use native.Mathlib.Omega.{arith}
use lib.ListN.{length, get_or}
use lib.Bits.{and_mask}
use borrow.Author.Rules.{rules}
use Rattle.build_cores.specs.Onward.{onward_in}
use Rattle.build_spec.proofs.Walks.{walk_inside, walk-less}
use Rattle.build_spec.proofs.Sources.{Turn, turn-start, turn-full, turn_end, turn-next}
use Rattle.build_transitions.proofs.sources.emit_sources.Statement.{statement}
use Rattle.build_transitions.proofs.sources.emit_sources.Tie as tie

abbrev invariant-loop : tie.invariant-loop-g
invariant-loop out₀ m keys heads last step parts levels g₀ i₀ out g i =
    Turn step.earlier step.core (onward_in step.ranks parts step.components levels) step.letter keys (length keys) out₀ m out g.m g.full i

abbrev decreases-loop : tie.decreases-loop-g
decreases-loop out₀ m keys heads last step parts levels g₀ i₀ out g i = i

abbrev Start : Type 0
Start = tie.Start invariant-loop decreases-loop

abbrev At-loop : Type 0
At-loop = tie.At-loop-g invariant-loop decreases-loop

abbrev After-emit-source : Type 0
After-emit-source = tie.After-emit_source-g invariant-loop decreases-loop

loop-holds : tie.Need-loop-g-init invariant-loop decreases-loop
loop-holds c = let start : Start = search in let p = start.requires in rw c.chain_top-i.ensures (turn-start p.0 p.1 p.7)

mul-x : tie.Need-offset_bounds-keys-i invariant-loop decreases-loop
mul-x c = let start : Start = search in omega (arith, walk_inside c.loop-g.invariant.walked, start.requires.0.few)

emit-source-requires : tie.Need-emit_source-g-requires invariant-loop decreases-loop
emit-source-requires c κs = let start : Start = search in let p = start.requires in let at-loop : At-loop = search in let l = at-loop.loop-g in
    let key = and_mask (get_or start.args.keys.now l.i 0) 48 in let inside = walk_inside l.invariant.walked in
    (p.0, inside, key, rw key (p.2 l.i inside), p.3, p.4, p.6, l.invariant.walked.made.kept.fits)

same_length : tie.Need-shape_of-out-then-g invariant-loop decreases-loop
same_length c = let at-emit-source : After-emit-source = search in let at-loop : At-loop = search in
    at-emit-source.emit_source-g.auto.out ∙ at-loop.loop-g.invariant.walked.made.long

returns : tie.Need-returns-then-g invariant-loop decreases-loop
returns c = let start : Start = search in let at-loop : At-loop = search in let at-emit-source : After-emit-source = search in
    turn-full at-loop.loop-g.invariant start.requires.0 at-emit-source.emit_source-g.ensures c.if-g.true

same-length-2 : tie.Need-shape_of-out-then-i-eq0 invariant-loop decreases-loop
same-length-2 c = let at-emit-source : After-emit-source = search in let at-loop : At-loop = search in
    at-emit-source.emit_source-g.auto.out ∙ at-loop.loop-g.invariant.walked.made.long

returns-2 : tie.Need-returns-then-i-eq0 invariant-loop decreases-loop
returns-2 c = let at-loop : At-loop = search in let start : Start = search in let at-emit-source : After-emit-source = search in
    turn_end at-loop.loop-g.invariant start.requires.0 at-emit-source.emit_source-g.ensures c.if-i-eq0.true

loop-less : tie.Need-loop-g-smaller invariant-loop decreases-loop
loop-less c =
    let at-loop : At-loop = search in let start : Start = search in walk-less at-loop.loop-g.invariant.walked start.requires.0.links c.if-i-eq0.false

loop-again : tie.Need-loop-g-preserved invariant-loop decreases-loop
loop-again c = let at-loop : At-loop = search in let start : Start = search in let at-emit-source : After-emit-source = search in
    turn-next at-loop.loop-g.invariant start.requires.0 at-emit-source.emit_source-g.ensures c.before.if-g.false c.if-i-eq0.false

pub emit_sources_spec : {M : Type 1} → statement M
emit_sources_spec = tie.close (tie.spec
    invariant-loop decreases-loop (λ c κs. search rules) (λ c. search rules) loop-holds mul-x (λ c. walk_inside c.before.loop-g.invariant.walked) emit-source-requires same_length returns
    same-length-2 returns-2 loop-less loop-again)
