-- `edges_length` meets its contract: the line that is added is that of transition i, and it is short.
use Rattle.std.proofs.Common.{◌≡◌, ◌∙◌, ℕ, ◌<◌, length, get_or, ap, ap₂, arith}
use Rattle.theory.specs.Run.{letter_of_lem, target_of}
use Rattle.table_lent.specs.Lent.{words_in}
use Rattle.table_lent.proofs.Reading.{words-in-length}
use Rattle.hoa_spec.specs.Lines.{edge_line}
use Rattle.hoa_spec.specs.Text.{edge_of}
use Rattle.hoa_laws.proofs.Lengths.{edge-short}
use Rattle.hoa_laws.proofs.Sums.{sum-none, sum-next, sum-all}
use Rattle.hoa_text.proofs.lengths.edges_length.Goals as goal

pub loop-i-init : goal.loop-i-init
loop-i-init c = record { so_far = sum-none (edge_of c.args.b) (words_in c.args.moves.now); short = omega arith }

pub number_at-t-requires : goal.number_at-t-requires
number_at-t-requires c = omega (arith, words-in-length c.args.moves.now)

pub overflow_add-total : goal.overflow_add-total
overflow_add-total c =
    omega (arith, edge-short c.args.b c.letter_of-letter.result c.target_of-target.result (omega arith) (omega arith), words-in-length c.args.moves.now)

pub loop-i-preserved : goal.loop-i-preserved
loop-i-preserved c =
    let ts = words_in c.args.moves.now in let i = c.loop-i.i in let line = edge_line c.args.b c.letter_of-letter.result c.target_of-target.result in
    let among : i < length ts = omega (arith, words-in-length c.args.moves.now) in let t = c.number_at-t.ensures in
    let is : line ≡ edge_of c.args.b i (get_or ts i 0) =
    ap₂ (λ (x y : ℕ). edge_line c.args.b x y) (c.letter_of-letter.ensures ∙ ap letter_of_lem t) (c.target_of-target.ensures ∙ ap target_of t) in
    let total = sum-next (edge_of c.args.b) ts i c.loop-i.total line among c.loop-i.invariant.so_far is in
    let short = edge-short c.args.b c.letter_of-letter.result c.target_of-target.result (omega arith) (omega arith) in record {
      so_far = omega arith;
      short = omega arith;
    }

pub returns : goal.returns
returns c = sum-all (edge_of c.args.b) (words_in c.args.moves.now) c.loop-i.i c.loop-i.total (omega (arith, words-in-length c.args.moves.now)) c.loop-i.invariant.so_far
