-- `bench_step_back::rounds` meets its contract: each round has the tables of the rule, and its largest ranks.
use Rattle.build_spec.proofs.Starting.{few}
use Rattle.bench_step_back.proofs.rounds.Goals as goal

pub largest_ranks-caps-requires : goal.largest_ranks-caps-requires
largest_ranks-caps-requires c = few c.requires.1.shaped

pub sweep-tally-requires : goal.sweep-tally-requires
sweep-tally-requires c = (c.requires, c.largest_ranks-caps.ensures)
