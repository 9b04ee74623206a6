-- `hoa_text::lines::put_states` meets its contract: its words one after the other.
use native.Mathlib.Omega.{arith}
use borrow.Author.Rules.{rules}
use Rattle.hoa_spec.specs.Lines.{states_line}
use Rattle.hoa_laws.proofs.Lengths.{states-length}
use Rattle.slice_text.proofs.Puts.{put_then}
use Rattle.hoa_text.proofs.lines.put_states.Statement.{statement}
use Rattle.hoa_text.proofs.lines.put_states.Tie as tie

returns : tie.Need-returns
unfolding states_line
returns c =
    let at-put : tie.After-put-a = search in let at-put-number : tie.After-put_number-b = search in let at-put-byte : tie.After-put_byte = search in
    put_then at-put.put-a.ensures (put_then at-put-number.put_number-b.ensures at-put-byte.put_byte.ensures)

pub put_states_spec : {M : Type 1} → statement M
put_states_spec = tie.close (tie.spec
    (λ c κs. let start : tie.Start = search in omega (arith, states-length start.args.states))
    (λ c κs. let start : tie.Start = search in omega (arith, states-length start.args.states))
    (λ c κs. let start : tie.Start = search in omega (arith, states-length start.args.states)) (λ c. search rules) returns)
