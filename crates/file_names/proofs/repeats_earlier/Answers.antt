-- `repeats_earlier` meets its contract: what `any` answers over the letters before b.
use Rattle.std.proofs.Common.{rules, ◌≡◌, get_or, refl}
use Rattle.std.proofs.iter.runs.Sources.{ranges}
use Rattle.sets.proofs.Chains.{some_is}
use Rattle.file_names.proofs.repeats_earlier.Goals as goal

pub returns : goal.returns
returns c = some_is _ _ _ (search (rules, ranges)) (λ e i l. let at : get_or c.args.names.now i 0 ≡ get_or c.args.names.now i 0 = refl in search (rules, ranges))
