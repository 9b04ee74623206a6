-- `build_transitions::transitions::chain` meets its contract: the codes below p are keys with chains.
use Rattle.build_spec.proofs.Chaining.{Chaining}
use Rattle.build_transitions.proofs.transitions.chain.Given as goal

abbrev pub invariant-loop-p : goal.invariant-loop-p
invariant-loop-p l = Chaining l.fn.codes l.codes l.heads l.last l.p
