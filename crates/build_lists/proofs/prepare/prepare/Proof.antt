-- `prepare` meets its contract: the numbers and masks are those of the file's rule.
use mathlib.Core.Path.{refl}
use native.Mathlib.Omega.{arith}
use borrow.Author.Rules.{rules}
use Rattle.build_lists.proofs.Ready.{file-formed, file-accepting, file-shape}
use Rattle.build_lists.proofs.prepare.prepare.Statement.{statement}
use Rattle.build_lists.proofs.prepare.prepare.Tie as tie

split-requires : tie.Need-split-split-requires
split-requires c κs = let start : tie.Start = search in file-formed start.args.file.now start.args.l start.requires _ _ c.before.counts_of.ensures c.clauses_of.ensures

cast-t10 : tie.Need-overflow_cast-shape
cast-t10 c = let at-clauses-of : tie.After-clauses_of = search in let start : tie.Start = search in
    omega (arith, file-accepting start.args.file.now start.args.l start.requires _ _ at-clauses-of.before.counts_of.ensures at-clauses-of.clauses_of.ensures)

returns : tie.Need-returns
returns c =
    let at_split : tie.After-split-split = search in let at-clauses-of : tie.After-clauses_of = search in let start : tie.Start = search in (
      file-shape start.args.file.now start.args.l start.requires _ _ at-clauses-of.before.counts_of.ensures at-clauses-of.clauses_of.ensures
          at_split.split-split.result at_split.split-split.ensures start.args.holds,
      refl,
    )

pub prepare_spec : {M : Type 1} → statement M
prepare_spec = tie.close (tie.spec (λ c κs. search rules) (λ c κs. search rules) split-requires cast-t10 returns)
