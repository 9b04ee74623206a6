-- `file_write::layout::preface_length` meets its contract.
use mathlib.Core.Path.{sym}
use borrow.Author.Rules.{rules}
use Rattle.file_write_spec.proofs.Laws.{length-preface}
use Rattle.file_write.proofs.layout.preface_length.Statement.{statement}
use Rattle.file_write.proofs.layout.preface_length.Tie as tie

pub preface_length_spec : {M : Type 1} → statement M
preface_length_spec = tie.close (tie.spec
    (λ c. sym ((length-preface c.before.args.names.now).0 c.if-names-eq0.true)) (λ c. search rules)
    (λ c. sym ((length-preface c.before.args.names.now).1 c.if-names-eq0.false)))
