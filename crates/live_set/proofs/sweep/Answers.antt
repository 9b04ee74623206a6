-- `sweep` meets its contract: it has gone over the transitions before i.
use Rattle.std.proofs.Common.{◌∙◌, ◌<◌, ◌*◌, length, sym, arith}
use Rattle.sets.proofs.Lists.{mem-at}
use Rattle.codes.specs.Bytes.{word_at}
use Rattle.table_lent.specs.Lent.{words_in}
use Rattle.table_lent.proofs.Reading.{words-in-length, words-in-at}
use Rattle.live_set.proofs.Sets.{letter-byte, moved_other, swept-start, swept-next, swept-end}
use Rattle.live_set.proofs.sweep.Goals as goal

pub loop-i-init : goal.loop-i-init
loop-i-init c = swept-start c.args.letter (words_in c.args.transitions.now) c.args.set.now c.requires.1

pub move_over-requires : goal.move_over-requires
move_over-requires c =
    let bytes = c.args.transitions.now in let i = c.loop-i.i in let m = mem-at (words_in bytes) i (omega (arith, words-in-length bytes)) in
    rw (c.word_at.ensures ∙ sym (words-in-at bytes i (omega arith))) (omega (arith, c.requires.0.sources _ m), omega (arith, c.requires.0.targets _ m))

pub loop-i-preserved : goal.loop-i-preserved
loop-i-preserved c =
    let bytes = c.args.transitions.now in let i = c.loop-i.i in let inside : i < length (words_in bytes) = omega (arith, words-in-length bytes) in let m = mem-at (words_in bytes) i inside in
    rw (c.move_over.ensures, c.word_at.ensures ∙ sym (words-in-at bytes i (omega arith)))
    (swept-next c.args.letter (words_in bytes) c.args.set.now c.requires.1 c.loop-i.set i inside (c.requires.0.sources _ m) (c.requires.0.targets _ m) c.loop-i.invariant)

-- a transition over another letter
pub loop-i-preserved-then-over-letter : goal.loop-i-preserved-then-over-letter
loop-i-preserved-then-over-letter c =
    let bytes = c.args.transitions.now in let i = c.loop-i.i in let inside : i < length (words_in bytes) = omega (arith, words-in-length bytes) in let m = mem-at (words_in bytes) i inside in
    rw (moved_other c.args.letter (word_at bytes (i * 8)) c.loop-i.set (λ e. omega (arith, letter-byte bytes (i * 8) (λ j. omega (arith, c.type_inv.transitions j)))), sym (words-in-at bytes i (omega arith)))
    (swept-next c.args.letter (words_in bytes) c.args.set.now c.requires.1 c.loop-i.set i inside (c.requires.0.sources _ m) (c.requires.0.targets _ m) c.loop-i.invariant)

pub returns : goal.returns
returns c = let ts = words_in c.args.transitions.now in
    swept-end c.args.letter ts c.args.set.now c.requires.1 c.loop-i.set c.loop-i.i (omega (arith, words-in-length c.args.transitions.now)) c.loop-i.invariant
