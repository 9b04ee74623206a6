-- `file_write::layout::fill` meets its contract: the preface, then the rest of the file.
use mathlib.Core.Path.{◌∙◌}
use native.Mathlib.Omega.{arith}
use borrow.Author.Rules.{rules}
use Rattle.rule_entries.specs.Entries.{rule_of}
use Rattle.file_spec.specs.File.{body_of}
use Rattle.file_spec.specs.Names.{preface_from}
use Rattle.file_read.proofs.Layouts.{length-body}
use Rattle.file_write.proofs.Names.{fill-both}
use Rattle.file_write.proofs.layout.fill.Statement.{statement}
use Rattle.file_write.proofs.layout.fill.Tie as tie

returns : tie.Need-returns
returns c =
    let start : tie.Start = search in let a = start.args in let p = start.requires in let f = body_of (rule_of a.h a.counts.now a.clauses.now) in
    let at-fill-rule : tie.After-fill_rule = search in let at-fill-names : tie.After-fill_names = search in
    at-fill-rule.fill_rule.ensures ∙ rw at-fill-names.fill_names.ensures
    (fill-both a.out.now (preface_from a.names.now) f a.at p.1 (omega (arith, p.2, length-body (rule_of a.h a.counts.now a.clauses.now))))

pub fill_spec : {M : Type 1} → statement M
fill_spec = tie.close (tie.spec (λ c κs. search rules) (λ c κs. search rules) (λ c. search rules) returns)
