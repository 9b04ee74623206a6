-- `mark_live` meets its contract: what is left is one thing, and the definition leaves it.
use Rattle.std.proofs.Common.{◌∙◌}
use Rattle.graph_walks.specs.Walks.{Solved}
use Rattle.graph_walks.proofs.Unique.{solved-unique}
use Rattle.trim_spec.specs.Graph.{Step}
use Rattle.trim_spec.specs.Trimmed.{flags}
use Rattle.trim_spec.specs.Tagged.{highs}
use Rattle.theory_laws.proofs.Sweeping.{flags-low, live-solved}
use Rattle.trim.proofs.marks.mark_live.Goals as goal

pub solve-requires : goal.solve-requires
solve-requires c = (rw c.flag.auto.codes c.requires.0, λ x. rw c.flag.ensures.0 (flags-low c.args.codes.now x))

pub returns : goal.returns
returns c =
    let codes = c.args.codes.now in let ts = c.args.transitions.now in
    let S : Solved (Step ts) (flags codes) (highs c.solve.new.codes) = rw c.flag.ensures.0 at c.solve.ensures.0 in
    (solved-unique (Step ts) (flags codes) _ _ S (live-solved codes ts), c.solve.ensures.1 ∙ c.flag.ensures.1)
