-- `put_macrostates` meets its contract: the line that is written is that of code i.
use Rattle.std.proofs.Common.{Bool, get_or, ap₂, arith}
use Rattle.listing_lines_spec.specs.Lines.{initial_at, m_line, macrostate_line}
use Rattle.listing_lines_spec.proofs.Lines.{room-line, put-line, put-no-lines, put-lines}
use Rattle.listing_text.proofs.lines.put_macrostates.Goals as goal

pub loop-i-init : goal.loop-i-init
loop-i-init c = put-no-lines (macrostate_line (initial_at c.args.initial)) c.args.list.now c.args.out.now c.args.at c.requires.1

pub put_macrostate-end-requires : goal.put_macrostate-end-requires
put_macrostate-end-requires c = let i = c.loop-i.i in let list = c.args.list.now in
    let line = ap₂ (λ (p q : Bool). m_line i (get_or list i 0) p q) c.is_initial-begins.ensures c.is_accepting-accepts.ensures in
    room-line (macrostate_line (initial_at c.args.initial)) list i (omega arith) c.loop-i.invariant _ line c.requires.1

pub loop-i-preserved : goal.loop-i-preserved
loop-i-preserved c = let i = c.loop-i.i in let list = c.args.list.now in
    let line = ap₂ (λ (p q : Bool). m_line i (get_or list i 0) p q) c.is_initial-begins.ensures c.is_accepting-accepts.ensures in
    put-line (macrostate_line (initial_at c.args.initial)) list i (omega arith) c.loop-i.invariant _ line c.put_macrostate-end.ensures

pub returns : goal.returns
returns c = put-lines (macrostate_line (initial_at c.args.initial)) c.args.list.now c.loop-i.i (omega arith) c.loop-i.invariant
