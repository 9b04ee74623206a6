-- `word_spelling::comes_again` meets its contract: a letter that comes again is one more, and one that does not ends it.
use Rattle.std.proofs.Common.{◌<◌, ◌∙◌, [], length, refl, sym, arith}
use Rattle.sets.specs.Tests.{every}
use Rattle.theory_laws.proofs.Places.{next-place-low}
use Rattle.word_spelling.proofs.Walks.{later_first, later-next, again-next, again-stop, again-end}
use Rattle.word_spelling.proofs.comes_again.Goals as goal

pub loop-x-init : goal.loop-x-init
unfolding every
loop-x-init c = record { low = c.requires; place = later_first _ (omega (arith, c.requires)) _ c.requires; again = refl }

pub returns-then-x-cycle : goal.returns-then-x-cycle
returns-then-x-cycle c = let h : 0 < length c.args.cycle.now = omega arith in sym (again-stop _ h _ _ _ (omega arith) c.loop-x.invariant.place c.if-x-cycle.true)

pub loop-x-preserved : goal.loop-x-preserved
loop-x-preserved c = let v = c.args.cycle.now in let l = c.loop-x in let i = l.invariant in let h : 0 < length v = omega arith in
    let e = c.next_place-later.ensures [] v refl refl in record {
      low = rw e (omega (arith, next-place-low [] v h l.later (omega arith)));
      place = e ∙ later-next v h c.args.d l.x-index l.later i.place;
      again = again-next v h c.args.d l.x-index l.later (omega arith) i.place c.if-x-cycle.false i.again;
    }

pub returns : goal.returns
returns c = let h : 0 < length c.args.cycle.now = omega (arith, c.requires) in sym (again-end _ h _ _ (omega arith) c.loop-x.invariant.again)
