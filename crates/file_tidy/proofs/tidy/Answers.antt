-- `file_tidy::tidy` meets its contract: what refuses the rule, else what is written of the tidied rule.
use Rattle.std.proofs.Common.{◌≡◌, sym, ◌∙◌, Err, rules}
use Rattle.refusals.proofs.Rows.{row-passes}
use Rattle.file_spec.specs.File.{trailer, part_before_lem}
use Rattle.file_tidy_spec.specs.Tidied.{tidy_rows}
use Rattle.file_tidy_spec.proofs.Laws.{tidy-laid, tidy-served, tidy-preface, names-few, refused_by, served_by}
use Rattle.file_tidy_spec.proofs.Round.{tidy-called}
use Rattle.file_tidy.proofs.Parts.{laid_out}
use Rattle.file_tidy.proofs.tidy.Goals as goal

pub returns-in_err-rule_row : goal.returns-in_err-rule_row
returns-in_err-rule_row c =
    let a = c.args in
    let e : c.from_residual.result ≡ Err c.in_err-rule_row.field-0.0 = search rules in
    let s = refused_by a.file.now a.out.now _ (sym c.in_err-rule_row.ensures) in
    tidy-called a.file.now a.out.now _ _ (e ∙ s.0) s.1

pub read_head-requires : goal.read_head-requires
read_head-requires c = let f = c.args.file.now in (laid_out f (tidy-laid f (row-passes (tidy_rows f) (sym c.in_ok-rule_row.ensures)))).long

pub counts_in-requires : goal.counts_in-requires
counts_in-requires c = let f = c.args.file.now in let p = laid_out f (tidy-laid f (row-passes (tidy_rows f) (sym c.in_ok-rule_row.ensures))) in (p.long, p.fits)

pub clauses_in-requires : goal.clauses_in-requires
clauses_in-requires c = let f = c.args.file.now in let p = laid_out f (tidy-laid f (row-passes (tidy_rows f) (sym c.in_ok-rule_row.ensures))) in (p.long, p.fits)

pub names_of-requires : goal.names_of-requires
names_of-requires c = row-passes (tidy_rows c.args.file.now) (sym c.in_ok-rule_row.ensures)

pub write_tidied-requires : goal.write_tidied-requires
write_tidied-requires c =
    let f = c.args.file.now in
    let e = row-passes (tidy_rows f) (sym c.in_ok-rule_row.ensures) in
    let w = (tidy-served f e).formed in
    rw (c.read_head.ensures, c.counts_in.ensures, c.clauses_in.ensures, c.names_of.ensures) (w, names-few (trailer f 1) (part_before_lem f) (tidy-preface f e) w.few_letters)

pub returns : goal.returns
returns c =
    let a = c.args in
    let w = rw (c.read_head.ensures, c.counts_in.ensures, c.clauses_in.ensures, c.names_of.ensures) at c.write_tidied.ensures in
    let s = served_by a.file.now a.out.now (sym c.in_ok-rule_row.ensures) in
    tidy-called a.file.now a.out.now _ _ (w.result_value ∙ s.0) (w.out_after ∙ s.1)
