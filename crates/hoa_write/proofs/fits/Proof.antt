-- `hoa_write::fits` meets its contract: the bound, or the length of the text.
use mathlib.Core.Path.{sym, ap}
use mathlib.Core.List.{List}
use Prim.Native.Nat.{ℕ, ◌/◌, ◌≤◌}
use native.Mathlib.Omega.{arith}
use lib.Dec.{leb}
use lib.ListN.{length}
use borrow.Author.Tests.{le-leb}
use Rattle.listing_lines_spec.specs.Lines.{initial_at}
use Rattle.table_lent.specs.Lent.{words_in}
use Rattle.table_lent.proofs.Reading.{words-in-length}
use Rattle.table_rows.specs.Passed.{Passed}
use Rattle.hoa_spec.specs.Text.{flags_of, automaton_text}
use Rattle.hoa_write.proofs.Room.{moves-few, text-within}
use Rattle.hoa_write.proofs.fits.Statement.{statement}
use Rattle.hoa_write.proofs.fits.Tie as tie

-- few codes, few transitions
counts : (s : ℕ) (codes moves : List ℕ) → Passed s (words_in codes) (words_in moves) → (length codes / 8 ≤ 65536) × (length moves / 8 ≤ 1099511627776)
counts s codes moves P = (omega (arith, P.few, words-in-length codes), omega (arith, moves-few s (words_in codes) (words_in moves) P, words-in-length moves))

mul-if1 : tie.Need-overflow_mul-codes
mul-if1 c = let start : tie.Start = search in let a = start.args in omega (arith, (counts a.s a.codes.now a.moves.now start.requires.2).0)

mul-if1-2 : tie.Need-overflow_mul-moves
mul-if1-2 c = let start : tie.Start = search in let a = start.args in omega (arith, (counts a.s a.codes.now a.moves.now start.requires.2).1)

add-if1 : tie.Need-overflow_add-codes
add-if1 c = let start : tie.Start = search in let a = start.args in let n = counts a.s a.codes.now a.moves.now start.requires.2 in omega (arith, n.0, n.1)

add-if1-2 : tie.Need-overflow_add-codes-2
add-if1-2 c = let start : tie.Start = search in let a = start.args in let n = counts a.s a.codes.now a.moves.now start.requires.2 in omega (arith, n.0, n.1)

returns : tie.Need-returns-then-codes-moves
returns c = let start : tie.Start = search in let a = start.args in let p = start.requires in
    let room : length (automaton_text a.b (flags_of (initial_at a.initial) (words_in a.codes.now)) (words_in a.moves.now)) ≤ a.room =
    omega (
      arith,
      c.if-codes-moves.true,
      text-within a.s (words_in a.codes.now) (words_in a.moves.now) p.2 (initial_at a.initial) a.b p.0,
      words-in-length a.codes.now,
      words-in-length a.moves.now,
    ) in sym (le-leb _ a.room room)

text-length-requires : tie.Need-text_length-requires
text-length-requires c κs = let start : tie.Start = search in let a = start.args in let p = start.requires in
    (p.0, p.1, p.2.few, moves-few a.s (words_in a.codes.now) (words_in a.moves.now) p.2, p.2.source)

returns-2 : tie.Need-returns
returns-2 c = let start : tie.Start = search in ap (λ (x : ℕ). leb x start.args.room) c.text_length.ensures

pub fits_spec : {M : Type 1} → statement M
fits_spec = tie.close (tie.spec mul-if1 mul-if1-2 add-if1 add-if1-2 returns text-length-requires returns-2)
