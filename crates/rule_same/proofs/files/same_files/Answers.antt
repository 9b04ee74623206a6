-- `rule_same::files::same_files` meets its contract: the names, then the rest of the rules.
use Rattle.std.proofs.Common.{◌∙◌}
use Rattle.rule_same.proofs.Same.{names-differ, names-agree}
use Rattle.rule_same.proofs.files.same_files.Goals as goal

pub returns-then-not-same : goal.returns-then-not-same
returns-then-not-same c = names-differ c.args.first.now c.args.second.now c.names_of.ensures c.names_of-2.ensures c.same.ensures c.if-not-same.true

pub returns : goal.returns
returns c = c.same_bodies.ensures ∙ names-agree c.args.first.now c.args.second.now c.names_of.ensures c.names_of-2.ensures c.same.ensures c.if-not-same.false
