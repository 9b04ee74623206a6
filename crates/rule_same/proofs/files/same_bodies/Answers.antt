-- `rule_same::files::same_bodies` meets its contract: the second rule has the first one's numbers, so the entries decide.
use Rattle.std.proofs.Common.{sym, ◌∙◌}
use Rattle.rule_same.proofs.Same.{numbers-differ, both-formed, same-told}
use Rattle.rule_same.proofs.files.same_bodies.Goals as goal

pub returns-then-not-same_numbers : goal.returns-then-not-same_numbers
returns-then-not-same_numbers c = numbers-differ _ _ _ _ c.requires.0 c.requires.1 (sym c.same_numbers.ensures ∙ c.if-not-same_numbers.true)

pub same_entries-requires : goal.same_entries-requires
same_entries-requires c =
    both-formed c.args.first.now c.args.second.now c.args.l c.args.m c.requires.0 c.requires.1 (sym c.same_numbers.ensures ∙ c.if-not-same_numbers.false)
    c.counts_of.ensures c.clauses_of.ensures c.counts_of-2.ensures c.clauses_of-2.ensures

pub returns : goal.returns
returns c =
    same-told c.args.first.now c.args.second.now c.args.l c.args.m c.requires.0 c.requires.1 (sym c.same_numbers.ensures ∙ c.if-not-same_numbers.false)
    c.counts_of.ensures c.clauses_of.ensures c.counts_of-2.ensures c.clauses_of-2.ensures c.same_entries.result c.same_entries.ensures
