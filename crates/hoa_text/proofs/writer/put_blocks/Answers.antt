-- `put_blocks` meets its contract: the lines that are written are those of macrostate i and its transitions.
use Rattle.std.proofs.Common.{◌∙◌, ap, arith}
use Rattle.theory.specs.Macrostate.{is_accepting_lem}
use Rattle.listing_lines_spec.specs.Lines.{initial_at}
use Rattle.listing_lines_spec.proofs.Lines.{room-line, put-line, put-no-lines, put-lines}
use Rattle.table_lent.specs.Lent.{words_in}
use Rattle.table_lent.proofs.Reading.{words-in-length}
use Rattle.hoa_spec.specs.Text.{flags_of, block_of}
use Rattle.hoa_laws.proofs.Leaving.{cursor-start, leaving-is, cursor-next}
use Rattle.hoa_text.proofs.Parts.{flags-count, block-is}
use Rattle.hoa_text.proofs.writer.put_blocks.Goals as goal

pub loop-i-init : goal.loop-i-init
loop-i-init c = let ts = words_in c.args.moves.now in record {
  cursor = cursor-start ts;
  so_far = put-no-lines (block_of c.args.b ts) (flags_of (initial_at c.args.initial) (words_in c.args.codes.now)) c.args.out.now c.args.at c.requires.2;
}

pub number_at-requires : goal.number_at-requires
number_at-requires c = omega (arith, words-in-length c.args.codes.now)

pub put_block-end-requires : goal.put_block-end-requires
put_block-end-requires c =
    let ts = words_in c.args.moves.now in let codes = c.args.codes.now in let initial = initial_at c.args.initial in let l = c.loop-i in let k = c.stretch_end-k in
    let is = block-is initial codes l.i c.loop-i-test.true c.args.b ts _ c.is_accepting-accepts.result (c.is_accepting-accepts.ensures ∙ ap is_accepting_lem c.number_at.ensures)
    (leaving-is ts c.requires.1 l.i l.j k.result l.invariant.cursor k.ensures) in (
      c.requires.0,
      k.ensures.from,
      k.ensures.within,
      room-line (block_of c.args.b ts) (flags_of initial (words_in codes)) l.i (omega (arith, flags-count initial codes)) l.invariant.so_far _ is c.requires.2,
    )

pub loop-i-preserved : goal.loop-i-preserved
loop-i-preserved c =
    let ts = words_in c.args.moves.now in let codes = c.args.codes.now in let initial = initial_at c.args.initial in let l = c.loop-i in let k = c.stretch_end-k in
    let is = block-is initial codes l.i c.loop-i-test.true c.args.b ts _ c.is_accepting-accepts.result (c.is_accepting-accepts.ensures ∙ ap is_accepting_lem c.number_at.ensures)
    (leaving-is ts c.requires.1 l.i l.j k.result l.invariant.cursor k.ensures) in record {
      cursor = cursor-next ts c.requires.1 l.i l.j k.result l.invariant.cursor k.ensures;
      so_far = put-line (block_of c.args.b ts) (flags_of initial (words_in codes)) l.i (omega (arith, flags-count initial codes)) l.invariant.so_far _ is c.put_block-end.ensures;
    }

pub returns : goal.returns
returns c = let initial = initial_at c.args.initial in
    put-lines (block_of c.args.b (words_in c.args.moves.now)) (flags_of initial (words_in c.args.codes.now)) c.loop-i.i (omega (arith, flags-count initial c.args.codes.now)) c.loop-i.invariant.so_far
