-- `file_rows::trailer::tag_ends` meets its contract.
use mathlib.Core.Path.{◌≡◌}
use mathlib.Core.Bool.{true, false}
use borrow.Author.Rules.{rules}
use borrow.Author.Tests.{ne_eqb, eq-eqb}
use lib.Dec.{eqb}
use Rattle.file_spec.specs.File.{trailer, tagged}
use Rattle.file_rows.proofs.trailer.tag_ends.Statement.{statement}
use Rattle.file_rows.proofs.trailer.tag_ends.Tie as tie

returns : tie.Need-returns-then-trailer_byte
unfolding tagged
returns c = let start : tie.Start = search in let f = start.args.f.now in
    let first : eqb (trailer f 6) 0x41 ≡ false = rw (← c.before.trailer_byte.ensures) (ne_eqb c.before.trailer_byte.result 0x41 c.if-trailer_byte.true) in rw first

returns-2 : tie.Need-returns
unfolding tagged
returns-2 c = let start : tie.Start = search in let f = start.args.f.now in let at-trailer-byte : tie.After-trailer_byte = search in
    let first : eqb (trailer f 6) 0x41 ≡ true = rw (← at-trailer-byte.trailer_byte.ensures) (eq-eqb at-trailer-byte.trailer_byte.result 0x41 c.before.if-trailer_byte.false) in
    rw (first, c.trailer_byte-2.ensures)

pub tag_ends_spec : {M : Type 1} → statement M
tag_ends_spec = tie.close (tie.spec (λ c κs. search rules) (λ c. search rules) returns (λ c κs. search rules) (λ c. search rules) returns-2)
