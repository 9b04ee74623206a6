-- `sweep` meets its contract: what the transitions before the index marked, and that `news` counts those that brought something new.
use Rattle.std.proofs.Common.{◌≡◌, ℕ, ◌+◌, get_or, ◌||◌, ltb, refl, ap₂, ◌∙◌, arith}
use borrow.Author.Tests.{lt-ltb}
use Rattle.sets.proofs.Lists.{mem-at}
use Rattle.graph_walks.specs.Marks.{marked, is_new}
use Rattle.trim_spec.specs.Tagged.{highs}
use Rattle.graph_walks.proofs.Loops.{or-now, or-before, passed_none, passed-next, passed-all}
use Rattle.theory_laws.proofs.Sweeping.{pass-swept}
use Rattle.trim.proofs.marks.sweep.Goals as goal
use Rattle.trim.proofs.marks.sweep.Goals.{then-mark, else-mark}

pub mark-requires : goal.mark-requires
mark-requires c = let t = get_or c.args.transitions.now c.loop-t.t-index 0 in let m = mem-at c.args.transitions.now c.loop-t.t-index (omega arith) in
    (omega (arith, c.source_of.ensures, c.requires.sources t m), omega (arith, c.target_of.ensures, c.requires.targets t m))

pub loop-t-init : goal.loop-t-init
loop-t-init c = (passed_none pass-swept _ _, refl, omega arith)

pub loop-t-preserved : goal.loop-t-preserved
loop-t-preserved c =
    let l = c.loop-t in let ms = highs l.codes in let o = c.mark.ensures in
    let told : ltb 0 c.if-mark.news ≡ (ltb 0 l.news || c.mark.result) = elim c.if-mark.branch [
      | then-mark w ↦ rw w.news-is (lt-ltb 0 (l.news + 1) (omega arith) ∙ or-now (ltb 0 l.news) _ w.if-mark.true)
      | else-mark w ↦ rw w.news-is (or-before (ltb 0 l.news) _ w.if-mark.false)
    ] in (
      passed-next pass-swept c.args.transitions.now (highs c.args.codes.now) ms _ (ltb 0 l.news) _ (ltb 0 c.if-mark.news) l.t-index _ (omega arith) l.invariant.0 refl
          (o.0 ∙ ap₂ (λ (x y : ℕ). marked x y ms) c.source_of.ensures c.target_of.ensures) (o.2 ∙ ap₂ (λ (x y : ℕ). is_new x y ms) c.source_of.ensures c.target_of.ensures) told,
      o.1 ∙ l.invariant.1,
      elim c.if-mark.branch [ then-mark w ↦ omega arith | else-mark w ↦ omega arith ],
    )

pub returns : goal.returns
returns c = let l = c.loop-t in
    let (marks, news) = passed-all pass-swept c.args.transitions.now (highs c.args.codes.now) (highs l.codes) (ltb 0 l.news) l.t-index (omega arith) l.invariant.0 in (marks, l.invariant.1, news)
