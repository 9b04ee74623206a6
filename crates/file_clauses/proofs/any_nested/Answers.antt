-- `any_nested` meets its contract: what `any` answers over the states. A list read at q lets the search take what the range gives there.
use Rattle.std.proofs.Common.{rules, ◌≡◌, get_or, refl}
use Rattle.std.proofs.iter.runs.Sources.{ranges}
use Rattle.sets.proofs.Chains.{some_is}
use Rattle.file_spec.specs.RuleRows.{some_nested}
use Rattle.file_clauses.proofs.any_nested.Goals as goal

pub returns : goal.returns
unfolding some_nested
returns c = some_is _ _ _ (search (rules, ranges)) (λ e q l. let at : get_or c.args.counts.now q 0 ≡ get_or c.args.counts.now q 0 = refl in search (rules, ranges))
