-- `word_rows::next_place` meets its contract.
use Prim.Native.Nat.{suc}
use mathlib.Core.Path.{◌≡◌, sym, ◌∙◌}
use native.Mathlib.Omega.{arith}
use native.Mathlib.Numerals.{add-one}
use borrow.Author.Rules.{rules}
use Rattle.theory.specs.Word.{places}
use Rattle.theory_laws.proofs.Places.{next-place-last, next-place-other}
use Rattle.word_rows.proofs.next_place.Statement.{statement}
use Rattle.word_rows.proofs.next_place.Tie as tie

returns : tie.Need-returns-then-p-lead
returns c = λ u v eu ev.
    let last : suc c.before.args.p ≡ places u v = omega (arith, c.if-p-lead.true) in
    sym (next-place-last u v c.before.args.p last ∙ eu)

returns-2 : tie.Need-returns
returns-2 c = λ u v eu ev. add-one c.before.args.p ∙ sym (next-place-other u v c.before.args.p (λ e. omega (arith, c.if-p-lead.false)))

pub next_place_spec : {M : Type 1} → statement M
next_place_spec = tie.close (tie.spec (λ c. search rules) (λ c. search rules) returns (λ c. search rules) returns-2)
