-- `loop_report::report` meets its contract: row 20 where it refuses, else the search.
use Rattle.std.proofs.Common.{◌≡◌, sym, ◌∙◌, length, refl, arith, rules, Err}
use Rattle.refusals.specs.Rows.{number_of}
use Rattle.refusals.proofs.Rows.{number-above, refused-row, row-passes}
use Rattle.rule_entries.specs.Entries.{rule_of}
use Rattle.file_spec.specs.RuleRows.{clause_rows}
use Rattle.loop_spec.specs.Search.{loop_of}
use Rattle.loop_report.proofs.Rows.{answer-refused, after-refused, row-clauses, row-slice}
use Rattle.loop_report.proofs.report.Goals as goal

pub returns-in_err-clauses_row : goal.returns-in_err-clauses_row
returns-in_err-clauses_row c =
    let a = c.args in
    let r = rule_of a.h a.counts.now a.clauses.now in
    let e : c.from_residual.result ≡ Err c.in_err-clauses_row.field-0.0 = search rules in
    let k = number_of c.in_err-clauses_row.field-0.0 in
    let n = number-above c.in_err-clauses_row.field-0.0 in
    let m : k ≡ 0 → ⊥ = λ z. omega arith in
    let p = row-clauses r (length a.out.now) k m (sym (refused-row (clause_rows r) _ (sym c.in_err-clauses_row.ensures))) in
    rw (sym p) (record { result_value = e ∙ answer-refused k _ (loop_of r) refl; out_after = after-refused k (loop_of r) a.out.now m })

pub returns : goal.returns
returns c =
    let a = c.args in
    let r = rule_of a.h a.counts.now a.clauses.now in
    rw (row-slice r (length a.out.now) (row-passes (clause_rows r) (sym c.in_ok-clauses_row.ensures))) c.search.ensures
