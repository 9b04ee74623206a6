-- `entry_of` meets its contract: the entry's clauses stand after those of the entries before it.
use Rattle.std.proofs.Common.{◌≡◌, ◌+◌, ◌*◌, ◌-◌, get_or, arith, sym}
use Rattle.rule_entries.specs.Entries.{rule_of}
use Rattle.rule_entries.proofs.Entries.{entry-fits, entry-part}
use Rattle.rule_entries.proofs.entry_of.Goals as goal

pub overflow_add-end : goal.overflow_add-end
overflow_add-end c =
    let a = c.args in let p = c.requires in
    omega (arith, c.clauses_before-start.ensures, entry-fits (rule_of a.h a.counts.now a.clauses.now) p.0 a.q a.a p.1 p.2, c.well_formed)

pub slice_bounds-result-end : goal.slice_bounds-result-end
slice_bounds-result-end c =
    let a = c.args in let p = c.requires in
    omega (arith, c.clauses_before-start.ensures, entry-fits (rule_of a.h a.counts.now a.clauses.now) p.0 a.q a.a p.1 p.2)

pub returns : goal.returns
returns c =
    let a = c.args in let p = c.requires in let i = a.q * a.h.s + a.a in let start = c.clauses_before-start.result in
    let n : start + get_or a.counts.now i 0 - start ≡ get_or a.counts.now i 0 = omega arith in
    rw (n, c.clauses_before-start.ensures) (sym (entry-part (rule_of a.h a.counts.now a.clauses.now) p.0 a.q a.a p.1 p.2))
