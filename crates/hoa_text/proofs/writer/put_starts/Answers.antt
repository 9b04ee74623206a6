-- `put_starts` meets its contract: the line that is written is that of code i, or nothing.
use Rattle.std.proofs.Common.{◌∙◌, ap, arith}
use Rattle.listing_lines_spec.specs.Lines.{initial_at}
use Rattle.listing_lines_spec.proofs.Lines.{room-line, put-line, put-no-lines, put-lines}
use Rattle.table_lent.specs.Lent.{words_in}
use Rattle.table_lent.proofs.Reading.{words-in-length}
use Rattle.hoa_spec.specs.Text.{flags_of, start_of}
use Rattle.hoa_text.proofs.Parts.{flags-count, start_is}
use Rattle.hoa_text.proofs.writer.put_starts.Goals as goal

pub loop-i-init : goal.loop-i-init
loop-i-init c = put-no-lines start_of (flags_of (initial_at c.args.initial) (words_in c.args.codes.now)) c.args.out.now c.args.at c.requires.1

pub number_at-requires : goal.number_at-requires
number_at-requires c = omega (arith, words-in-length c.args.codes.now)

pub put_start-end-requires : goal.put_start-end-requires
put_start-end-requires c = let initial = initial_at c.args.initial in
    room-line start_of (flags_of initial (words_in c.args.codes.now)) c.loop-i.i (omega (arith, flags-count initial c.args.codes.now)) c.loop-i.invariant _
    (start_is initial c.args.codes.now c.loop-i.i c.loop-i-test.true c.is_initial-begins.result (c.is_initial-begins.ensures ∙ ap initial c.number_at.ensures)) c.requires.1

pub loop-i-preserved : goal.loop-i-preserved
loop-i-preserved c = let initial = initial_at c.args.initial in
    put-line start_of (flags_of initial (words_in c.args.codes.now)) c.loop-i.i (omega (arith, flags-count initial c.args.codes.now)) c.loop-i.invariant _
    (start_is initial c.args.codes.now c.loop-i.i c.loop-i-test.true c.is_initial-begins.result (c.is_initial-begins.ensures ∙ ap initial c.number_at.ensures)) c.put_start-end.ensures

pub returns : goal.returns
returns c = let initial = initial_at c.args.initial in
    put-lines start_of (flags_of initial (words_in c.args.codes.now)) c.loop-i.i (omega (arith, flags-count initial c.args.codes.now)) c.loop-i.invariant
