-- `bench_step_back::rule_rounds` meets its contract: the tables are those of the file's rule.
use Rattle.std.proofs.Common.{rules}
use Rattle.file_spec.specs.File.{rule_in}
use Rattle.bench_step_back.proofs.rule_rounds.Statement.{statement}
use Rattle.bench_step_back.proofs.rule_rounds.Tie as tie

rounds-requires : tie.Need-rounds-requires
rounds-requires c κs =
    let at-prepare : tie.After-prepare-p = search in let start : tie.Start = search in let at-file-opens : tie.After-file_opens-opens = search in
    (rule_in start.args.file.now, record { shaped = at-prepare.prepare-p.ensures.0; table = at-file-opens.file_opens-opens.ensures })

pub rule_rounds_spec : {M : Type 1} → statement M
rule_rounds_spec = tie.close (tie.spec (λ c κs. search rules) (λ c κs. search rules) rounds-requires (λ c. search rules))
