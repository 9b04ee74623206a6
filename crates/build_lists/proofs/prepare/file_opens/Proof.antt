-- `file_opens` meets its contract: the table is that of the file's rule.
use borrow.Author.Rules.{rules}
use Rattle.build_lists.proofs.Ready.{file-formed, opens-same}
use Rattle.build_lists.proofs.prepare.file_opens.Statement.{statement}
use Rattle.build_lists.proofs.prepare.file_opens.Tie as tie

open-table-requires : tie.Need-open_table-requires
open-table-requires c κs = let start : tie.Start = search in file-formed start.args.file.now start.args.l start.requires _ _ c.before.counts_of.ensures c.clauses_of.ensures

returns : tie.Need-returns
returns c = let start : tie.Start = search in let at-counts-of : tie.After-counts_of = search in
    opens-same start.args.file.now start.args.l start.requires _ _ at-counts-of.counts_of.ensures c.before.clauses_of.ensures _ c.open_table.ensures

pub file_opens_spec : {M : Type 1} → statement M
file_opens_spec = tie.close (tie.spec (λ c κs. search rules) (λ c κs. search rules) open-table-requires returns)
