-- `hoa_text::writer::put_text` meets its contract: its parts one after the other.
use mathlib.Core.Path.{ap}
use native.Mathlib.Omega.{arith}
use borrow.Author.Rules.{rules}
use lib.ListN.{length}
use Rattle.slice_text.proofs.Puts.{put_as, put_then}
use Prim.Native.Nat.{◌+◌, ◌/◌, ◌≤◌}
use Rattle.listing_lines_spec.specs.Lines.{initial_at, lines}
use Rattle.hoa_spec.specs.Lines.{states_line, ap_line}
use Rattle.table_lent.specs.Lent.{words_in}
use Rattle.hoa_spec.specs.Text.{flags_of, start_of, block_of, automaton_text}
use Rattle.hoa_text.proofs.Parts.{states-is}
use Rattle.hoa_laws.proofs.Bound.{text-sum}
use Rattle.hoa_text.proofs.writer.put_text.Statement.{statement}
use Rattle.hoa_text.proofs.writer.put_text.Tie as tie

abbrev start-of-at-put-ap-arg : tie.After-put_ap-arg-1 → tie.Start
start-of-at-put-ap-arg c = search

-- all parts fit
room : (s : tie.Start) → let a = s.args in let flags = flags_of (initial_at a.initial) (words_in a.codes.now) in
    length (states_line (length a.codes.now / 8)) + length (lines start_of 0 flags) + length (ap_line a.b) + length (lines (block_of a.b (words_in a.moves.now)) 0 flags) + 113
    ≤ length a.out.now
room s = let a = s.args in
    omega (arith, text-sum a.b (flags_of (initial_at a.initial) (words_in a.codes.now)) (words_in a.moves.now), ap length (states-is (initial_at a.initial) a.codes.now), s.requires.3)

put-blocks-requires : tie.Need-put_blocks-h-requires
put-blocks-requires c κs = let at-put-starts-arg : tie.After-put_starts-arg-1 = search in let start : tie.Start = search in (start.requires.0, start.requires.2, omega (arith, room start))

returns : tie.Need-returns
unfolding automaton_text
returns c =
    let start : tie.Start = start-of-at-put-ap-arg (search) in let a = start.args in let at-put-blocks : tie.After-put_blocks-h = search in
    let at-put-acceptance : tie.After-put_acceptance-g = search in let at-put-ap : tie.After-put_ap-f = search in let at-put-starts : tie.After-put_starts-e = search in
    let at-put-states : tie.After-put_states-d = search in let at-put : tie.After-put-c = search in let at-put2 : tie.After-put = search in
    put_then at-put.put-c.ensures
    (put_then (put_as (states-is (initial_at a.initial) a.codes.now) at-put-states.put_states-d.ensures)
    (put_then at-put-starts.put_starts-e.ensures (put_then at-put-ap.put_ap-f.ensures
    (put_then at-put-acceptance.put_acceptance-g.ensures (put_then at-put-blocks.put_blocks-h.ensures at-put2.put.ensures)))))

pub put_text_spec : {M : Type 1} → statement M
put_text_spec = tie.close (tie.spec
    (λ c κs. omega (arith, room (search))) (λ c κs. omega (arith, room (search)))
    (λ c κs. let start : tie.Start = search in (start.requires.1, omega (arith, room start))) (λ c κs. let start : tie.Start = search in (start.requires.0, omega (arith, room start)))
    (λ c κs. omega (arith, room (search))) put-blocks-requires (λ c κs. let at-out3 : tie.After-out-3-1 = search in omega (arith, room (search)))
    (λ c. search rules) returns)
