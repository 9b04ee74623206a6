-- `judge_masks::word::fill` meets its contract.
use Rattle.rule_entries.specs.Entries.{rule_of}
use Rattle.rule_entries.proofs.Entries.{entries-few}
use borrow.Author.Rules.{rules}
use Rattle.judge_masks.proofs.word.fill.Statement.{statement}
use Rattle.judge_masks.proofs.word.fill.Tie as tie

starts-of-requires : tie.Need-starts_of-starts-requires
starts-of-requires c κs = let start : tie.Start = search in let a = start.args in entries-few (rule_of a.h a.counts.now a.clauses.now) start.requires.0.formed

pub fill_spec : {M : Type 1} → statement M
fill_spec = tie.close (tie.spec starts-of-requires (λ c κs. search rules) (λ c κs. search rules) (λ c. search rules) (λ c. search rules))
