-- `tag_file` meets its contract: the tables that the tags are found by are those of the file's rule.
use mathlib.Core.Path.{refl}
use borrow.Author.Rules.{rules}
use Rattle.file_spec.specs.File.{rule_in}
use Rattle.stricter_search.proofs.FileTables.{file-table}
use Rattle.stricter_search.proofs.files.tag_file.Statement.{statement}
use Rattle.stricter_search.proofs.files.tag_file.Tie as tie

tag-live-requires : tie.Need-tag_live-requires
tag-live-requires c κs =
    let start : tie.Start = search in let (begins, lists) = start.requires.0 in let r = rule_in start.args.file.now in let T = file-table lists refl in
    let at-file-opens : tie.After-file_opens-opens = search in let at-prepare : tie.After-prepare-p = search in
    ((r, begins r, record { shaped = at-prepare.prepare-p.ensures.0; table = at-file-opens.file_opens-opens.ensures }, T.few, T.codes_are, T.moves_are), start.requires.1)

returns : tie.Need-returns
returns c =
    let start : tie.Start = search in let (begins, lists) = start.requires.0 in let r = rule_in start.args.file.now in let T = file-table lists refl in
    let at-prepare : tie.After-prepare-p = search in let P = at-prepare.prepare-p.ensures.0 in let at-tag-live : tie.After-tag_live = search in
    let at-file-opens : tie.After-file_opens-opens = search in
    (P.components_are, at-tag-live.tag_live.ensures r (begins r) (record { shaped = P; table = at-file-opens.file_opens-opens.ensures }) T.few T.codes_are T.moves_are)

pub tag_file_spec : {M : Type 1} → statement M
tag_file_spec = tie.close (tie.spec (λ c κs. search rules) (λ c κs. search rules) tag-live-requires (λ c. search rules) (λ c. search rules) (λ c. search rules) returns)
