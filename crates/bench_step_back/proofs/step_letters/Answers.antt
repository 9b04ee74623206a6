-- `bench_step_back::step_letters` meets its contract: the table rises over each letter.
use Rattle.build_spec.proofs.Starting.{few}
use Rattle.build_spec.proofs.Letters.{rises}
use Rattle.bench_step_back.proofs.step_letters.Goals as goal

pub step_back-before-requires : goal.step_back-before-requires
step_back-before-requires c = let p = c.requires in let e = p.0 in (few e.1.shaped, rises e.1 c.loop-a.a c.loop-a-test.true p.1 c.args.low.now p.2)
