-- `codes_pass` meets its contract: the last of ascending codes is the largest.
use Rattle.std.proofs.Common.{◌≡◌, ◌∙◌, ◌-◌, ◌/◌, ◌^◌, ℕ, length, get_or, sym, ap, arith}
use Rattle.std.proofs.lemmas.Bool.{eqb-true}
use Rattle.table_lent.specs.Lent.{words_in}
use Rattle.table_lent.proofs.Reading.{words-in-length}
use Rattle.live_arrive.proofs.Arrivals.{coded_none, coded-last}
use Rattle.live_arrive.proofs.codes_pass.Goals as goal

pub returns-then-n-eq0 : goal.returns-then-n-eq0
returns-then-n-eq0 c = λ e. coded_none (sym c.is_ascending.ensures ∙ c.if-not-is_ascending.false) (omega (arith, words-in-length c.args.codes.now))

pub element-requires : goal.element-requires
element-requires c = omega (arith, words-in-length c.args.codes.now)

pub returns : goal.returns
returns c =
    let cs = words_in c.args.codes.now in let w = words-in-length c.args.codes.now in
    let last : c.element.result ≡ get_or cs (length cs - 1) 0 = c.element.ensures ∙ ap (λ (k : ℕ). get_or cs (k - 1) 0) (sym w) in
    λ e. coded-last (sym c.is_ascending.ensures ∙ c.if-not-is_ascending.false) (omega arith) (ap (λ (x : ℕ). x / 2 ^ 48) (sym last) ∙ eqb-true (c.element.result / 2 ^ 48) 0 e)
