-- `clauses_before` meets its contract: a count is at most 255, and the sum is that of the counts passed.
use Rattle.std.proofs.Common.{rules, tests, arith, take, refl, length-take-le}
use Rattle.std.proofs.iter.runs.Made.{chains}
use Rattle.sets.specs.Lists.{sum}
use Rattle.std.proofs.lemmas.Iterator.{YieldsList-from_slice}
use Rattle.std.proofs.lemmas.Iterator.Adapters.{fits_from_length, at_most_from_yields_List}
use Rattle.std.proofs.lemmas.List.Recursion.{is_sum_by}
use Rattle.rule_entries.proofs.clauses_before.Goals as goal

pub sum-requires-clause-fits : goal.sum-requires-clause-fits
sum-requires-clause-fits c =
    let xs = take c.args.i c.args.counts.now in let long = length-take-le c.args.i c.args.counts.now c.requires.0 in
    fits_from_length _ _ 65536 _ (at_most_from_yields_List (YieldsList-from_slice xs cc) (omega arith)) c.map.ensures.closure (omega arith) (λ x r q k. search (rules, tests))

pub returns : goal.returns
unfolding sum
returns c = search (rules, chains, is_sum_by sum (λ x. x) refl (λ _ _. refl))
