-- `enter_all` meets its contract: a transition more is done.
use Rattle.std.proofs.Common.{ℕ, ◌+◌, get_or, drop, sym, ap, ◌∙◌, arith}
use Rattle.sets.proofs.Lists.{mem-at}
use Rattle.table_lent.specs.Lent.{in_both}
use Rattle.table_runs.specs.Tracks.{entered_by, entered_all}
use Rattle.table_runs.proofs.Entering.{all-next, all_end}
use Rattle.table_runs.proofs.enter_all.Goals as goal

pub enter-requires : goal.enter-requires
enter-requires c = let ts = (in_both c.args.moves.now c.args.movebytes.now).numbers in let i = c.loop-i.i in
    rw (c.element.ensures, c.loop-i.auto.marks) (c.requires (get_or ts i 0) (mem-at ts i (omega arith)))

pub loop-i-preserved : goal.loop-i-preserved
loop-i-preserved c =
    let l = c.loop-i in let a = c.args in let ts = (in_both a.moves.now a.movebytes.now).numbers in
    let e = c.enter.ensures ∙ ap (λ (t : ℕ). entered_by a.letter a.here a.there t l.marks) c.element.ensures in
    l.invariant ∙ all-next a.letter a.here a.there ts l.marks l.i (omega arith) ∙ ap (entered_all a.letter a.here a.there (drop (l.i + 1) ts)) (sym e)

pub returns : goal.returns
returns c = let l = c.loop-i in let a = c.args in
    sym (l.invariant ∙ all_end a.letter a.here a.there (in_both a.moves.now a.movebytes.now).numbers l.marks l.i (omega arith))
