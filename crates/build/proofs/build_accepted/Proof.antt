-- `build_accepted` meets its contract: the tables are those of the file's rule.
use Rattle.file_spec.specs.File.{rule_in}
use borrow.Author.Rules.{rules}
use Rattle.build.proofs.build_accepted.Statement.{statement}
use Rattle.build.proofs.build_accepted.Tie as tie

build-table-requires : tie.Need-build_table-requires
build-table-requires c κs =
    let at-file-opens : tie.After-file_opens-opens = search in let at-prepare : tie.After-prepare-p = search in let start : tie.Start = search in
    (rule_in start.args.file.now, record { shaped = at-prepare.prepare-p.ensures.0; table = at-file-opens.file_opens-opens.ensures })

returns : tie.Need-returns
returns c =
    let at-prepare : tie.After-prepare-p = search in let p = at-prepare.prepare-p.ensures in let start : tie.Start = search in let r = rule_in start.args.file.now in
    let at-build-table : tie.After-build_table = search in let at-file-opens : tie.After-file_opens-opens = search in
    rw p.1 at (at-build-table.build_table.ensures r (record { shaped = p.0; table = at-file-opens.file_opens-opens.ensures }))

pub build_accepted_spec : {M : Type 1} → statement M
build_accepted_spec = tie.close (tie.spec (λ c κs. search rules) (λ c κs. search rules) build-table-requires (λ c. search rules) (λ c. search rules) returns)
