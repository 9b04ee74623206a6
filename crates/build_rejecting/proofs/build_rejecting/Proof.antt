-- `build_rejecting` meets its contract: the start condition of `build_file` is that the set lacks the initial state.
use borrow.Author.Rules.{rules}
use Rattle.rejecting_spec.specs.Rejecting.{lacks_initial, RejectsWord}
use Rattle.theory.specs.Sequence.{RejectsSequence}
use Rattle.theory_laws.proofs.RejectingDemand.{rejecting-demand}
use Rattle.endless_spec.proofs.Truth.{rejecting-truth}
use Rattle.build_spec.specs.Keys.{start_of}
use Rattle.build.proofs.Answer.{file-built}
use Rattle.build_rejecting.proofs.build_rejecting.Statement.{statement}
use Rattle.build_rejecting.proofs.build_rejecting.Tie as tie

returns : tie.Need-returns
unfolding start_of
returns c =
    let start : tie.Start = search in let a = start.args in let at-build-file : tie.After-build_file = search in let b = at-build-file.build_file in
    file-built lacks_initial RejectsWord RejectsSequence rejecting-demand rejecting-truth a.file.now a.codes.now a.transitions.now b.result _ _ b.ensures

pub build_rejecting_spec : {M : Type 1} → statement M
build_rejecting_spec = tie.close (tie.spec (λ c κs. search rules) (λ c. search rules) (λ c. search rules) returns)
