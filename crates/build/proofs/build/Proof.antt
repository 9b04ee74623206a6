-- `build` meets its contract: the start condition of `build_file` is 01's.
use borrow.Author.Rules.{rules}
use Rattle.theory.specs.Macrostate.{holds_initial}
use Rattle.theory.specs.Plan.{AcceptsWord}
use Rattle.theory.specs.Sequence.{AcceptsSequence}
use Rattle.theory_laws.proofs.Demand.{demand3}
use Rattle.endless_spec.proofs.Truth.{accepting-truth}
use Rattle.build_spec.specs.Keys.{start_of}
use Rattle.build.proofs.Answer.{file-built}
use Rattle.build.proofs.build.Statement.{statement}
use Rattle.build.proofs.build.Tie as tie

returns : tie.Need-returns
unfolding start_of
returns c =
    let start : tie.Start = search in let a = start.args in let at-build-file : tie.After-build_file = search in let b = at-build-file.build_file in
    file-built holds_initial AcceptsWord AcceptsSequence demand3 accepting-truth a.file.now a.codes.now a.transitions.now b.result _ _ b.ensures

pub build_spec : {M : Type 1} → statement M
build_spec = tie.close (tie.spec (λ c κs. search rules) (λ c. search rules) (λ c. search rules) returns)
