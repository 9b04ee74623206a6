-- `loop_report::search` meets its contract.
use Prim.Native.Nat.{ℕ, ◌+◌, ◌<◌}
use mathlib.Core.Path.{sym, ◌∙◌, ap}
use mathlib.Core.List.{List, ◌++◌}
use native.Mathlib.Omega.{arith}
use lib.ListN.{drop}
use Rattle.theory.specs.Rule.{Rule}
use Rattle.theory.specs.Passing.{WellFormed}
use Rattle.rule_entries.specs.Entries.{rule_of}
use Rattle.rule_entries.proofs.Entries.{accepting-small}
use Rattle.rule_reach.specs.Tables.{successors_of}
use Rattle.loop_spec.specs.Search.{loop_of}
use Rattle.loop_search.specs.Begins.{Begins}
use Rattle.loop_report.proofs.Found.{report-none, report-short, report-states, found_none, found-route, found-state, found-begins, found-length}
use borrow.Author.Rules.{rules}
use Rattle.loop_report.proofs.search.Statement.{statement}
use Rattle.loop_report.proofs.search.Tie as tie

-- the rule that is searched
abbrev rule : (c : tie.After-start_of-s) → Rule
rule c = let start : tie.Start = search in let a = start.args in rule_of a.h a.counts.now a.clauses.now

formed : (c : tie.After-start_of-s) → WellFormed (rule c)
formed c = let start : tie.Start = search in start.requires

-- where its loop begins
begun : (c : tie.After-start_of-s) → Begins (rule c).n (successors_of (rule c)) (rule c).accepting c.start_of-s.result
begun c = let at-successor-table : tie.After-successor_table-es = search in rw at-successor-table.successor_table-es.ensures at c.start_of-s.ensures

abbrev slice : (c : tie.After-start_of-s) → List ℕ
slice c = let start : tie.Start = search in start.args.out.now

cast-accepting : tie.Need-overflow_cast-accepting
cast-accepting c = let start : tie.Start = search in let a = start.args in omega (arith, accepting-small (rule_of a.h a.counts.now a.clauses.now) start.requires)

returns : tie.Need-returns-then-n-k
returns c = let at-start-of : tie.After-start_of-s = search in
    report-none (loop_of (rule at-start-of)) (slice at-start-of) (found_none (rule at-start-of) at-start-of.start_of-s.result (begun at-start-of) c.if-n-k.true)

returns-2 : tie.Need-returns-then-out-k
returns-2 c =
    let at-start-of : tie.After-start_of-s = search in let l : at-start-of.start_of-s.result.further < (rule at-start-of).n = omega (arith, c.before.if-n-k.false) in
    report-short (loop_of (rule at-start-of)) (slice at-start-of) (omega (arith, found-length (rule at-start-of) at-start-of.start_of-s.result (begun at-start-of) l, c.if-out-k.true))

others-of-requires : tie.Need-others_of-requires
others-of-requires c κs = let at-start-of : tie.After-start_of-s = search in let else1 : tie.Else-n-k = search in
    let l : at-start-of.start_of-s.result.further < (rule at-start-of).n = omega (arith, else1.if-n-k.false) in
    ((formed at-start-of).few_states, found-state (rule at-start-of) at-start-of.start_of-s.result (begun at-start-of) l, (formed at-start-of).accepting_states)

write-loop-requires : tie.Need-write_loop-requires
write-loop-requires c κs = let at-start-of : tie.After-start_of-s = search in let else1 : tie.Else-n-k = search in
    let l : at-start-of.start_of-s.result.further < (rule at-start-of).n = omega (arith, else1.if-n-k.false) in let else2 : tie.Else-out-k = search in
    let at-successor-table : tie.After-successor_table-es = search in (
      ((formed at-start-of).few_states, found-state (rule at-start-of) at-start-of.start_of-s.result (begun at-start-of) l, omega (arith, else2.if-out-k.false)),
      rw (at-successor-table.successor_table-es.ensures, c.before.others_of.ensures) (found-begins (rule at-start-of) at-start-of.start_of-s.result (begun at-start-of) l),
    )

returns-3 : tie.Need-returns
returns-3 c =
    let at-successor-table : tie.After-successor_table-es = search in let at-start-of : tie.After-start_of-s = search in let s = at-start-of.start_of-s.result in let else1 : tie.Else-n-k = search in
    let l : s.further < (rule at-start-of).n = omega (arith, else1.if-n-k.false) in let at-others-of : tie.After-others_of = search in let at-write-loop : tie.After-write_loop = search in
    let w = rw (at-successor-table.successor_table-es.ensures, at-others-of.others_of.ensures) at at-write-loop.write_loop.ensures in
    let k = found-length (rule at-start-of) s (begun at-start-of) l in let else2 : tie.Else-out-k = search in
    let f = report-states (loop_of (rule at-start-of)) (slice at-start-of) s.further k (omega (arith, else2.if-out-k.false)) in
    (f.0, w ∙ ap (λ (ps : List ℕ). ps ++ drop (s.further + 1) (slice at-start-of)) (sym (found-route (rule at-start-of) s (begun at-start-of) l)) ∙ f.1)

pub search_spec : {M : Type 1} → statement M
search_spec = tie.close (tie.spec
    (λ c κs. search rules) cast-accepting (λ c κs. search rules) returns returns-2 others-of-requires write-loop-requires (λ c. search rules)
    (λ c. search rules) returns-3)
