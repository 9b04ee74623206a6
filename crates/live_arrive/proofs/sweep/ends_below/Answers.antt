-- `ends_below` meets its contract: the last of ascending transitions has the largest source.
use Rattle.std.proofs.Common.{◌≡◌, ◌∙◌, ◌-◌, ℕ, length, get_or, sym, ap, arith}
use Rattle.theory.specs.Run.{source_of}
use Rattle.table_lent.specs.Lent.{words_in}
use Rattle.table_lent.proofs.Reading.{words-in-length}
use Rattle.live_arrive.proofs.Turns.{sourced-none, sourced-last}
use Rattle.live_arrive.proofs.sweep.ends_below.Goals as goal

pub returns-then-m-eq0 : goal.returns-then-m-eq0
returns-then-m-eq0 c = sourced-none (omega (arith, words-in-length c.args.transitions.now))

pub element-requires : goal.element-requires
element-requires c = omega (arith, words-in-length c.args.transitions.now)

pub returns : goal.returns
returns c =
    let ts = words_in c.args.transitions.now in let w = words-in-length c.args.transitions.now in
    let last : c.element.result ≡ get_or ts (length ts - 1) 0 = c.element.ensures ∙ ap (λ (k : ℕ). get_or ts (k - 1) 0) (sym w) in
    sourced-last c.requires (omega arith) (c.source_of.ensures ∙ ap source_of last)
