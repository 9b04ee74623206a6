-- `explore` meets its contract.
use mathlib.Core.Path.{◌≡◌, ◌∙◌}
use Prim.Native.Nat.{◌+◌, ◌*◌, ◌/◌, ◌%◌}
use native.Mathlib.Omega.{arith}
use borrow.Author.Rules.{rules}
use lib.ListN.{length}
use Rattle.stricter_laws.specs.Pairs.{PairStep, PairEdge}
use Rattle.stricter_laws.proofs.Rows.{cut-le, fits-same}
use Rattle.stricter_laws.specs.Forest.{Tried}
use Rattle.stricter_laws.proofs.Pairs.{step-lettered, kind-low, Parts, pair_parts}
use Rattle.stricter_laws.proofs.Passes.{explored}
use Rattle.stricter_word.proofs.explore.explore.Statement.{statement}
use Rattle.stricter_word.proofs.explore.explore.Tie as tie

-- the two numbers of the origin
own : (c : tie.Start) → Parts (length c.args.lcodes.now) (length c.args.rcodes.now) c.args.origin
own c = pair_parts c.args.origin c.requires.0 c.requires.1

cut-row-requires : tie.Need-cut_row-cuts-requires
cut-row-requires c κs = let start : tie.Start = search in (start.requires.0.paired.ascend_a, let h = (own start).first in omega (arith, start.requires.0.few_a))

expand-requires : tie.Need-expand-requires
expand-requires c κs =
    let start : tie.Start = search in let a = start.args in let f = start.requires.0 in let p = own start in let at_clear : tie.After-clear = search in
    let at-cut-row : tie.After-cut_row-cuts = search in (
      (rw (at_clear.clear.ensures.long ∙ f.marked) f.paired, p.second, (let h = p.second in omega (arith, f.few_b)), omega arith, omega arith),
      cut-le f.paired.ascend_a (a.origin / length a.rcodes.now) at-cut-row.cut_row-cuts.result at-cut-row.cut_row-cuts.ensures,
    )

exhaust-requires : tie.Need-exhaust-requires
exhaust-requires c κs =
    let start : tie.Start = search in let a = start.args in let at_clear : tie.After-clear = search in let at-expand : tie.After-expand = search in
    let at-cut-row : tie.After-cut_row-cuts = search in fits-same _
    ((at-expand.expand.ensures (a.origin / length a.rcodes.now) at-cut-row.cut_row-cuts.ensures).long ∙ at_clear.clear.ensures.long)
    start.requires.0

same_length : tie.Need-shape_of-marks
same_length c =
    let start : tie.Start = search in let a = start.args in let at-cut-row : tie.After-cut_row-cuts = search in let at_clear : tie.After-clear = search in
    let at-exhaust : tie.After-exhaust = search in let at-expand : tie.After-expand = search in
    at-exhaust.exhaust.ensures.long ∙ (at-expand.expand.ensures (a.origin / length a.rcodes.now) at-cut-row.cut_row-cuts.ensures).long
    ∙ at_clear.clear.ensures.long

returns : tie.Need-returns
returns c =
    let start : tie.Start = search in let a = start.args in let nb = length a.rcodes.now in let x = a.origin / nb * nb + a.origin % nb in let e : x ≡ a.origin = (own start).whole in
    let s = PairStep nb a.left.now a.right.now in let at-cut-row : tie.After-cut_row-cuts = search in let at-expand : tie.After-expand = search in
    let tried : Tried (s x) (PairEdge nb a.left.now a.right.now x) 3 _ _ = at-expand.expand.ensures (a.origin / nb) at-cut-row.cut_row-cuts.ensures in
    let at_clear : tie.After-clear = search in let at-exhaust : tie.After-exhaust = search in
    explored (step-lettered start.requires.0.paired) (kind-low _ _) a.origin
    (λ b y t. (b, t)) at_clear.clear.ensures (rw e at tried) at-exhaust.exhaust.ensures

pub explore_spec : {M : Type 1} → statement M
explore_spec = tie.close (tie.spec
    (λ c κs. search rules) (λ c. let h = (own (search)).some in omega arith) cut-row-requires (λ c. let h = (own (search)).some in omega arith) expand-requires exhaust-requires
    same_length returns)
