-- `loop_report::mixed_loop` meets its contract: what refuses the layout, else the report on the rule.
use Rattle.std.proofs.Common.{◌≡◌, ◌+◌, ◌-◌, ◌≤◌, length, sym, ◌∙◌, arith, rules, Err}
use Rattle.refusals.proofs.Rows.{row-passes}
use Rattle.file_spec.specs.Rows.{layout_rows}
use Rattle.file_spec.proofs.FileParts.{clauses-part, counts-part}
use Rattle.file_spec.proofs.TrailerRows.{Placed, placed}
use Rattle.file_read.proofs.FileRows.{laid, laid-formed}
use Rattle.loop_report.proofs.Rows.{refused, passed, meant}
use Rattle.loop_report.proofs.mixed_loop.Goals as goal

pub returns-in_err-layout_row : goal.returns-in_err-layout_row
returns-in_err-layout_row c =
    let a = c.args in
    let x : c.from_residual.result ≡ Err c.in_err-layout_row.field-0.0 = search rules in
    let e = refused a.file.now a.out.now _ (sym c.in_err-layout_row.ensures) in
    rw x (record { value = e.0; out_after = e.1; reported = meant a.file.now a.out.now a.out.now _ e.0 e.1 })

pub returns : goal.returns
returns c =
    let f = c.args.file.now in
    let old = c.args.out.now in
    let z = row-passes (layout_rows f) (sym c.in_ok-layout_row.ensures) in
    let p = placed f (laid f z).0 in
    let w = rw (c.lay_out-l.ensures, counts-part f p.fits, clauses-part f p.fits) at c.report.ensures in
    let e = passed f old _ c.report.result z w.result_value w.out_after in
    record { value = e.0; out_after = e.1; reported = meant f old _ c.report.result e.0 e.1 }
