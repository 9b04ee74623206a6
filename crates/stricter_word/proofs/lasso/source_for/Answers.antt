-- `source_for` meets its contract: what suits has one source, and where the table has no such transition any number will do.
use Rattle.std.proofs.Common.{◌∙◌, ℕ, get_or, sym, ap, arith}
use Rattle.sets.proofs.Lists.{mem-at, place_of}
use Rattle.theory.specs.Macrostate.{is_accepting_lem}
use Rattle.theory.specs.Run.{source_of, letter_of_lem, target_of}
use Rattle.stricter_word.proofs.lasso.source_for.Goals as goal

pub suits-requires : goal.suits-requires
suits-requires c = c.requires.inside.sources _ (mem-at c.args.moves.now c.loop-t.t-index (omega arith))

pub returns-then-suits : goal.returns-then-suits
returns-then-suits c =
    let u = get_or c.args.moves.now c.loop-t.t-index 0 in let m = mem-at c.args.moves.now c.loop-t.t-index (omega arith) in
    let s = c.suits.ensures in let yes = c.if-suits.true in record {
      low = omega (arith, c.requires.inside.sources u m, c.requires.few, c.source_of.ensures);
      source = λ t n f g h. c.source_of.ensures ∙ c.requires.parents.one u t m n (s.over yes ∙ sym f) (s.to yes ∙ sym g) (s.from yes ∙ sym h);
    }

pub returns : goal.returns
returns c = record {
  low = omega arith;
  source = λ t n f g h. let (p, l, e) = place_of c.args.moves.now t n in
      absurd (c.loop-t.invariant p (omega arith) (ap letter_of_lem e ∙ f) (ap target_of e ∙ g)
      (ap (λ (m : ℕ). is_accepting_lem (get_or c.args.codes.now (source_of m) 0)) e ∙ h));
}
