-- `file_rows::trailer::read_head` meets its contract.
use borrow.Author.Rules.{rules}
use Rattle.file_rows.proofs.trailer.read_head.Statement.{statement}
use Rattle.file_rows.proofs.trailer.read_head.Tie as tie

returns : tie.Need-returns
returns c = let at-trailer-byte : tie.After-trailer_byte = search in let at-trailer-byte2 : tie.After-trailer_byte-2 = search in
    rw (at-trailer-byte.trailer_byte.ensures, at-trailer-byte2.trailer_byte-2.ensures, c.before.trailer_byte-3.ensures, c.trailer_byte-4.ensures)

pub read_head_spec : {M : Type 1} → statement M
read_head_spec = tie.close (tie.spec
    (λ c κs. search rules) (λ c. search rules) (λ c κs. search rules) (λ c. search rules) (λ c κs. search rules) (λ c. search rules) (λ c κs. search rules)
    (λ c. search rules) returns)
