-- `write_way` meets its contract: the pair x was met while a step is left, and then its byte tells the step before it.
use Rattle.std.proofs.Common.{◌≡◌, ℕ, ◌+◌, ◌-◌, ◌<◌, List, length, sym, subst, arith}
use mathlib.Core.Logic.{inr, ⊎_elim}
use Rattle.graph_walks.proofs.Sums.{has-place}
use Rattle.stricter_laws.specs.Pairs.{PairStep}
use Rattle.stricter_laws.specs.Forest.{kind_in, Trail}
use Rattle.stricter_laws.proofs.Forest.{back-met}
use Rattle.stricter_laws.proofs.Expand.{searchable-paired}
use Rattle.stricter_laws.proofs.Pairs.{step-lettered, kind-low}
use Rattle.stricter_laws.proofs.Parents.{trail-back}
use Rattle.stricter_laws.proofs.Routes.{back_some, back-parent, Writing, writing_start, writing-next, writing-end}
use Rattle.stricter_word.proofs.lasso.write_way.Goals as goal

pub loop-k-init : goal.loop-k-init
loop-k-init c = record { trail = inr c.requires.back; written = writing_start }

-- a pair that was met has a mark
low : {S : ℕ → ℕ → ℕ → Type 0} {kind : ℕ → ℕ} {o : ℕ} (marks : List ℕ) (x k : ℕ) → 0 < k → Trail S kind o marks x k → x < length marks
low {S} {kind} {o} marks x k h t = let m = back-met (trail-back S kind o marks x k h t) in has-place marks x (omega arith)

pub bounds-marks-x : goal.bounds-marks-x
bounds-marks-x c = low c.args.marks.now c.loop-k.x c.loop-k.k (omega arith) c.loop-k.invariant.trail

pub parent-x-requires : goal.parent-x-requires
parent-x-requires c = (
  c.requires.searchable.0,
  c.requires.searchable.1,
  rw (sym c.requires.searchable.2) (low c.args.marks.now c.loop-k.x c.loop-k.k (omega arith) c.loop-k.invariant.trail),
)

pub loop-k-preserved : goal.loop-k-preserved
loop-k-preserved c =
    let l = c.loop-k in let S = PairStep (length c.args.rcodes.now) c.args.left.now c.args.right.now in let e : l.k ≡ (l.k - 1) + 1 = omega arith in
    let met = trail-back S (kind_in c.args.lcodes.now c.args.rcodes.now) c.args.origin c.args.marks.now l.x l.k (omega arith) l.invariant.trail in
    let b = back-parent (step-lettered (searchable-paired c.requires.searchable.0 c.requires.searchable.1)) (kind-low _ _) c.args.origin c.args.marks.now met c.parent-x.ensures in record {
      trail = b.1;
      written = writing-next (l.k - 1) _ c.parent-x.result (omega arith) b.0
          (subst (λ (m : ℕ). Writing S c.args.y c.args.at c.args.n c.args.word.now l.x m l.word) e l.invariant.written);
    }

pub returns : goal.returns
returns c = let l = c.loop-k in let none : l.k ≡ 0 = omega arith in
    let from : l.x ≡ c.args.origin = ⊎_elim (λ h. h.1) (λ h. let some = back_some
    (step-lettered (searchable-paired c.requires.searchable.0 c.requires.searchable.1)) (kind-low _ _) c.args.origin c.args.marks.now h in absurd (omega arith)) l.invariant.trail in
    writing-end c.args.origin from (rw none at l.invariant.written)
