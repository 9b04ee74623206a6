-- `put_transitions` meets its contract: the line that is written is that of t.
use Rattle.std.proofs.Common.{◌∙◌, ℕ, get_or, ap, ap₂, arith}
use Rattle.theory.specs.Run.{source_of, letter_of_lem}
use Rattle.listing_lines_spec.specs.Lines.{t_line, transition_line}
use Rattle.listing_lines_spec.proofs.Lines.{room-line, put-line, put-no-lines, put-lines}
use Rattle.listing_text.proofs.lines.put_transitions.Goals as goal

pub loop-t-init : goal.loop-t-init
loop-t-init c = put-no-lines transition_line c.args.list.now c.args.out.now c.args.at c.requires

pub put_transition-end-requires : goal.put_transition-end-requires
put_transition-end-requires c = let i = c.loop-t.t-index in let t = get_or c.args.list.now i 0 in
    let line = ap₂ (λ (p q : ℕ). t_line p q c.target_of-target.result) c.source_of-source.ensures c.letter_of-letter.ensures
    ∙ ap (t_line (source_of t) (letter_of_lem t)) c.target_of-target.ensures in
    room-line transition_line c.args.list.now i (omega arith) c.loop-t.invariant _ line c.requires

pub loop-t-preserved : goal.loop-t-preserved
loop-t-preserved c = let i = c.loop-t.t-index in let t = get_or c.args.list.now i 0 in
    let line = ap₂ (λ (p q : ℕ). t_line p q c.target_of-target.result) c.source_of-source.ensures c.letter_of-letter.ensures
    ∙ ap (t_line (source_of t) (letter_of_lem t)) c.target_of-target.ensures in
    put-line transition_line c.args.list.now i (omega arith) c.loop-t.invariant _ line c.put_transition-end.ensures

pub returns : goal.returns
returns c = put-lines transition_line c.args.list.now c.loop-t.t-index (omega arith) c.loop-t.invariant
