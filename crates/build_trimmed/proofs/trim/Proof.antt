-- `trim` meets its contract.
use mathlib.Core.Path.{sym, ◌∙◌}
use native.Mathlib.Omega.{arith}
use borrow.Author.Rules.{rules}
use Rattle.build_trimmed.proofs.Trimming.{few-left, trimmed-none, trimmed-some}
use Rattle.build_trimmed.proofs.trim.Statement.{statement}
use Rattle.build_trimmed.proofs.trim.Tie as tie

returns : tie.Need-returns-then-left-codes
returns c =
    let start : tie.Start = search in let a = start.args in let at-mark-live : tie.After-mark_live = search in let s = at-mark-live.mark_live in
    let at-compact : tie.After-compact-macrostates = search in let k = at-compact.compact-macrostates.ensures in let at-count-left : tie.After-count_left-left = search in
    trimmed-none a.codes.now a.transitions.now start.requires s.new.codes s.ensures.0 s.ensures.1
    (sym at-count-left.count_left-left.ensures ∙ omega arith) _ _ k.0 k.1

number-requires : tie.Need-number-requires
number-requires c κs =
    let start : tie.Start = search in let a = start.args in let at-mark-live : tie.After-mark_live = search in let s = at-mark-live.mark_live in
    let at-count-left : tie.After-count_left-left = search in let e = at-count-left.count_left-left.ensures in
    few-left a.codes.now a.transitions.now start.requires s.new.codes s.ensures.0 s.ensures.1 (λ n. omega (arith, e, n))

rewrite-all-requires : tie.Need-rewrite_all-kept-requires
rewrite-all-requires c κs =
    let at-mark-live : tie.After-mark_live = search in let s = at-mark-live.mark_live in let start : tie.Start = search in let at-number : tie.After-number = search in
    rw (at-number.number.auto.codes ∙ s.auto.codes) start.requires.inside

returns-2 : tie.Need-returns
returns-2 c =
    let start : tie.Start = search in let a = start.args in let at-mark-live : tie.After-mark_live = search in let s = at-mark-live.mark_live in
    let at-number : tie.After-number = search in let v = at-number.number in let at-rewrite-all : tie.After-rewrite_all-kept = search in let w = at-rewrite-all.rewrite_all-kept.ensures in
    let at-compact2 : tie.After-compact-macrostates-2 = search in let k = at-compact2.compact-macrostates-2.ensures in
    trimmed-some a.codes.now a.transitions.now start.requires s.new.codes s.ensures.0 s.ensures.1 v.new.codes v.ensures.0 v.ensures.1 v.auto.codes
    _ _ w.0 w.1 _ _ k.0 k.1

pub trim_spec : {M : Type 1} → statement M
trim_spec = tie.close (tie.spec
    (λ c κs. search rules) (λ c κs. search rules) (λ c κs. search rules) (λ c. search rules) (λ c. search rules) returns number-requires rewrite-all-requires
    (λ c κs. search rules) (λ c. search rules) (λ c. search rules) returns-2)
