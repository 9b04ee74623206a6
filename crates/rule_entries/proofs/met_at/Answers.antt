-- `met_at` meets its contract: the part of the clauses is the entry.
use Rattle.std.proofs.Common.{◌≡◌, ◌+◌, ◌*◌, ◌-◌, get_or, take, drop, arith, sym, ap, ◌∙◌}
use Rattle.theory.specs.Rule.{entry}
use Rattle.rule_entries.specs.Entries.{rule_of}
use Rattle.rule_entries.specs.Met.{met_of}
use Rattle.rule_entries.proofs.Entries.{entry-number, entry-fits, entry-part}
use Rattle.rule_entries.proofs.met_at.Goals as goal

pub slice_bounds-first_met-end : goal.slice_bounds-first_met-end
slice_bounds-first_met-end c =
    let a = c.args in let p = c.requires in let r = rule_of a.h a.counts.now a.clauses.now in
    omega (arith, p.1.at (a.q * a.h.s + a.a) (entry-number r p.0 a.q a.a p.2 p.3), entry-fits r p.0 a.q a.a p.2 p.3)

pub returns : goal.returns
returns c =
    let a = c.args in let p = c.requires in let r = rule_of a.h a.counts.now a.clauses.now in let i = a.q * a.h.s + a.a in let start = get_or a.starts.now i 0 in
    let n : start + get_or a.counts.now i 0 - start ≡ get_or a.counts.now i 0 = omega arith in
    let part : take (start + get_or a.counts.now i 0 - start) (drop start a.clauses.now) ≡ entry r a.q a.a
    = rw (n, p.1.at i (entry-number r p.0 a.q a.a p.2 p.3)) (sym (entry-part r p.0 a.q a.a p.2 p.3)) in
    c.first_met.ensures ∙ ap (met_of a.set) part
