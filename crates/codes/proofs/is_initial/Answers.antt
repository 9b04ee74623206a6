-- `codes::is_initial` meets its contract: bit `initial` of a code says whether the initial state is in its set.
use Rattle.std.proofs.Common.{◌∙◌, rules}
use Rattle.theory.specs.Macrostate.{begun}
use Rattle.codes.proofs.Starts.{held, lacking}
use Rattle.codes.proofs.is_initial.Goals as goal

pub returns-then-code-initial-eq1 : goal.returns-then-code-initial-eq1
unfolding begun
returns-then-code-initial-eq1 c = c.is_first.ensures ∙ rw (held c.args.code c.args.initial c.if-code-initial-eq1.true)

pub returns-else-code-initial-eq1 : goal.returns-else-code-initial-eq1
unfolding begun
returns-else-code-initial-eq1 c = rw (lacking c.args.code c.args.initial c.if-code-initial-eq1.false) (search rules)
