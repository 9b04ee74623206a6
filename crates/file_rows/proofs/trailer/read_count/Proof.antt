-- `file_rows::trailer::read_count` meets its contract: byte 4 is the low one.
use mathlib.Core.Path.{◌≡◌}
use native.Mathlib.Omega.{arith}
use borrow.Author.Rules.{rules}
use Rattle.file_spec.specs.File.{trailer}
use Rattle.file_rows.proofs.trailer.read_count.Statement.{statement}
use Rattle.file_rows.proofs.trailer.read_count.Tie as tie

returns : tie.Need-returns
returns c =
    let start : tie.Start = search in let f = start.args.f.now in let low : c.before.trailer_byte.result ≡ trailer f 4 = c.before.trailer_byte.ensures in
    let high : c.trailer_byte-2.result ≡ trailer f 5 = c.trailer_byte-2.ensures in omega arith

pub read_count_spec : {M : Type 1} → statement M
read_count_spec = tie.close (tie.spec
    (λ c κs. search rules) (λ c. search rules) (λ c κs. search rules) (λ c. search rules) (λ c. omega arith) (λ c. omega arith) returns)
