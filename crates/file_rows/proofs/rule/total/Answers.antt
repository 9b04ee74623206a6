-- `total` meets its contract: what `sum` answers is the sum of the bytes.
use Rattle.std.proofs.Common.{rules, refl}
use Rattle.std.proofs.lemmas.List.Recursion.{is_sum_by}
use Rattle.sets.specs.Lists.{sum}
use Rattle.file_rows.proofs.rule.total.Goals as goal

pub returns : goal.returns
unfolding sum
returns c = let e = is_sum_by sum (λ x. x) refl (λ _ _. refl) c.args.xs.now in search (rules, e)
