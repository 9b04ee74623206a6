-- `tidy_lists` meets its contract: the clauses of each entry are among the rule's, and what stays of them is no longer.
use Rattle.std.proofs.Common.{get_or, ◌+◌, ◌≤◌, length, arith}
use Rattle.rule_entries.proofs.Entries.{sum-part}
use Rattle.rule_tidy.proofs.Lists.{passed_none, passed_entry, passed-all, entry-room, kept-few}
use Rattle.rule_tidy.proofs.tidy_lists.Goals as goal

pub loop-i-init : goal.loop-i-init
loop-i-init c = let a = c.args in passed_none a.counts.now a.clauses.now a.counts2.now a.clauses2.now

pub overflow_add-next : goal.overflow_add-next
overflow_add-next c = let a = c.args in omega (arith, entry-room a.counts.now a.clauses.now c.loop-i.i c.requires.0 c.loop-i-test.true)

pub slice_bounds-tidy_entry-end : goal.slice_bounds-tidy_entry-end
slice_bounds-tidy_entry-end c = let a = c.args in omega (arith, entry-room a.counts.now a.clauses.now c.loop-i.i c.requires.0 c.loop-i-test.true)

pub slice_bounds-tidy_entry-count-in-loop-i : goal.slice_bounds-tidy_entry-count-in-loop-i
slice_bounds-tidy_entry-count-in-loop-i c = let a = c.args in omega (arith, entry-room a.counts.now a.clauses.now c.loop-i.i c.requires.0 c.loop-i-test.true)

pub slice_bounds-tidy_entry-start-in-loop-i : goal.slice_bounds-tidy_entry-start-in-loop-i
slice_bounds-tidy_entry-start-in-loop-i c = let a = c.args in omega (arith, entry-room a.counts.now a.clauses.now c.loop-i.i c.requires.0 c.loop-i-test.true)

pub overflow_cast-counts2 : goal.overflow_cast-counts2
overflow_cast-counts2 c = let a = c.args in let l = c.loop-i in
    omega (arith, kept-few l.from (get_or a.counts.now l.i 0) c.tidy_entry-kept.result a.clauses.now c.tidy_entry-kept.ensures.value, c.type_inv.counts l.i)

pub loop-i-preserved : goal.loop-i-preserved
loop-i-preserved c = let a = c.args in let p = c.requires in let l = c.loop-i in let t = c.tidy_entry-kept in
    let r : l.from + get_or a.counts.now l.i 0 ≤ length a.clauses.now = omega (arith, entry-room a.counts.now a.clauses.now l.i p.0 c.loop-i-test.true) in
    passed_entry a.counts.now a.clauses.now a.counts2.now a.clauses2.now l.counts2 l.clauses2 l.from l.to l.i l.invariant
    c.loop-i-test.true (omega (arith, r, p.2)) (omega (arith, p.1)) t.result t.new.out t.ensures.value t.ensures.out_after

pub returns : goal.returns
returns c = let a = c.args in let p = c.requires in let l = c.loop-i in
    let f = passed-all _ _ _ _ _ _ _ _ _ l.invariant c.loop-i-test.false (omega (arith, sum-part a.counts.now l.i, p.2)) (omega (arith, p.1)) in
    record { value = f.0; counts2_after = f.1.0; clauses2_after = f.1.1 }
