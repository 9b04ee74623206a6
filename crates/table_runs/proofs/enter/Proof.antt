-- `table_runs::enter` meets its contract.
use mathlib.Core.Path.{◌≡◌, sym}
use native.Mathlib.Omega.{arith}
use Rattle.theory.specs.Run.{letter_of_lem}
use Rattle.table_runs.proofs.Entering.{by-other, by-unmarked, by-marked}
use borrow.Author.Rules.{rules}
use Rattle.table_runs.proofs.enter.Statement.{statement}
use Rattle.table_runs.proofs.enter.Tie as tie

returns : tie.Need-returns-then-letter_of-letter
returns c =
    let start : tie.Start = search in let a = start.args in let other : letter_of_lem a.t ≡ a.letter → ⊥ = λ e. omega (arith, c.before.letter_of.ensures, c.if-letter_of-letter.true, e) in
    sym (by-other a.letter a.here a.there a.t a.marks.now other)

returns-2 : tie.Need-returns-then-marks-there-eq0
returns-2 c =
    let start : tie.Start = search in let a = start.args in let at-letter-of : tie.After-letter_of = search in let else1 : tie.Else-letter_of-letter = search in
    let over : letter_of_lem a.t ≡ a.letter = omega (arith, at-letter-of.letter_of.ensures, else1.if-letter_of-letter.false) in let at-target-of : tie.After-target_of = search in
    sym (by-unmarked a.letter a.here a.there a.t a.marks.now over (rw (sym at-target-of.target_of.ensures) c.if-marks-there-eq0.true))

returns-3 : tie.Need-returns
returns-3 c =
    let start : tie.Start = search in let a = start.args in let at-letter-of : tie.After-letter_of = search in let else1 : tie.Else-letter_of-letter = search in
    let over : letter_of_lem a.t ≡ a.letter = omega (arith, at-letter-of.letter_of.ensures, else1.if-letter_of-letter.false) in let at-target-of : tie.After-target_of = search in
    rw c.source_of.ensures
    (sym (by-marked a.letter a.here a.there a.t a.marks.now over (rw (sym at-target-of.target_of.ensures) (omega (arith, c.before.if-marks-there-eq0.false)))))

pub enter_spec : {M : Type 1} → statement M
enter_spec = tie.close (tie.spec
    (λ c κs. search rules) returns (λ c κs. search rules) (λ c. search rules) (λ c. search rules) returns-2 (λ c κs. search rules) (λ c. search rules)
    (λ c. search rules) (λ c. search rules) returns-3)
