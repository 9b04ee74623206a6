-- `put_edges` meets its contract: the line that is written is that of the transition at place i.
use Rattle.std.proofs.Common.{◌≡◌, ◌∙◌, ℕ, ◌+◌, ◌-◌, ◌<◌, length, take, drop, get_or, sym, ap, ap₂, arith}
use Rattle.theory.specs.Run.{letter_of_lem, target_of}
use Rattle.slice_text.proofs.Puts.{put_as}
use Rattle.listing_lines_spec.specs.Lines.{lines}
use Rattle.listing_lines_spec.proofs.Lines.{room-line, put-line, put-no-lines, put-lines}
use Rattle.table_lent.specs.Lent.{words_in}
use Rattle.hoa_spec.specs.Lines.{edge_line}
use Rattle.hoa_spec.specs.Text.{edge_of}
use Rattle.hoa_text.proofs.Parts.{part_length, part_at}
use Rattle.hoa_text.proofs.writer.put_edges.Goals as goal

pub loop-i-init : goal.loop-i-init
loop-i-init c = let part = take (c.args.k - c.args.j) (drop c.args.j (words_in c.args.moves.now)) in let none : c.args.j - c.args.j ≡ 0 = omega arith in
    put_as (ap (λ (x : ℕ). lines (edge_of c.args.b) 0 (take x part)) none) (put-no-lines (edge_of c.args.b) part c.args.out.now c.args.at c.requires.3)

pub put_edge-end-requires : goal.put_edge-end-requires
put_edge-end-requires c =
    let ts = words_in c.args.moves.now in let part = take (c.args.k - c.args.j) (drop c.args.j ts) in let i = c.loop-i.i - c.args.j in
    let t : c.number_at-t.result ≡ get_or part i 0 = c.number_at-t.ensures ∙ sym (part_at ts c.args.j c.args.k c.requires.1 c.requires.2 c.loop-i.i (omega arith) (omega arith)) in
    let is : edge_line c.args.b c.letter_of-letter.result c.target_of-target.result ≡ edge_of c.args.b i (get_or part i 0) =
    ap₂ (λ (x y : ℕ). edge_line c.args.b x y) (c.letter_of-letter.ensures ∙ ap letter_of_lem t) (c.target_of-target.ensures ∙ ap target_of t) in
    let among : i < length part = omega (arith, part_length ts c.args.j c.args.k c.requires.1 c.requires.2) in
    (c.requires.0, room-line (edge_of c.args.b) part i among c.loop-i.invariant _ is c.requires.3)

pub loop-i-preserved : goal.loop-i-preserved
loop-i-preserved c =
    let ts = words_in c.args.moves.now in let part = take (c.args.k - c.args.j) (drop c.args.j ts) in let i = c.loop-i.i - c.args.j in
    let t : c.number_at-t.result ≡ get_or part i 0 = c.number_at-t.ensures ∙ sym (part_at ts c.args.j c.args.k c.requires.1 c.requires.2 c.loop-i.i (omega arith) (omega arith)) in
    let is : edge_line c.args.b c.letter_of-letter.result c.target_of-target.result ≡ edge_of c.args.b i (get_or part i 0) =
    ap₂ (λ (x y : ℕ). edge_line c.args.b x y) (c.letter_of-letter.ensures ∙ ap letter_of_lem t) (c.target_of-target.ensures ∙ ap target_of t) in
    let among : i < length part = omega (arith, part_length ts c.args.j c.args.k c.requires.1 c.requires.2) in let next : c.loop-i.i + 1 - c.args.j ≡ i + 1 = omega arith in
    put_as (ap (λ (x : ℕ). lines (edge_of c.args.b) 0 (take x part)) next) (put-line (edge_of c.args.b) part i among c.loop-i.invariant _ is c.put_edge-end.ensures)

pub returns : goal.returns
returns c = let ts = words_in c.args.moves.now in let part = take (c.args.k - c.args.j) (drop c.args.j ts) in
    put-lines (edge_of c.args.b) part (c.loop-i.i - c.args.j) (omega (arith, part_length ts c.args.j c.args.k c.requires.1 c.requires.2)) c.loop-i.invariant
