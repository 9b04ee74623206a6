-- `file_read::read_rule` meets its contract: in a file that no row refuses, the preface has room for the names.
use Rattle.std.proofs.Common.{sym}
use Rattle.refusals.proofs.Rows.{row-passes}
use Rattle.file_spec.specs.Rows.{file_rows_lem, file_row}
use Rattle.file_read.proofs.FileRows.{placed_passing, accepted-rows}
use Rattle.file_read.proofs.Answer.{names-kept}
use Rattle.file_read.proofs.read_rule.Goals as goal

pub names_in-names-requires : goal.names_in-names-requires
unfolding file_row
names_in-names-requires c =
    let f = c.args.f.now in
    let p = placed_passing f (sym c.in_ok-trailer_row.ensures) in
    rw c.lay_out-l.ensures (p.ranges.few_letters, names-kept f (accepted-rows f (row-passes (file_rows_lem f) (sym c.in_ok-laid_row.ensures))).1)
