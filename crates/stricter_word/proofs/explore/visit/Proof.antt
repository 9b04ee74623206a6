-- `visit` meets its contract.
use mathlib.Core.Path.{◌≡◌, refl, sym, ap, ◌∙◌}
use Prim.Native.Nat.{ℕ, ◌+◌, ◌*◌, ◌<◌}
use native.Mathlib.Omega.{arith}
use borrow.Author.Rules.{rules}
use lib.ListN.{length}
use Rattle.stricter_laws.proofs.Rows.{cut-le}
use Rattle.stricter_laws.specs.Forest.{kind_in}
use Rattle.stricter_laws.proofs.Pairs.{step-lettered, kind-low, kind_at, pair-low}
use Rattle.stricter_laws.proofs.Passes.{passed-visit}
use Rattle.stricter_word.proofs.explore.visit.Statement.{statement}
use Rattle.stricter_word.proofs.explore.visit.Tie as tie

-- the pair is below the number of marks
low : (c : tie.Start) → c.args.i * length c.args.rcodes.now + c.args.j < length c.args.marks.now
low c = pair-low c.args.i c.args.j c.requires.0 c.requires.2 c.requires.3

abbrev start-of-after-kind : tie.After-kind → tie.Start
start-of-after-kind c = search

-- what `kind` answers
kind-is : (c : tie.After-kind) → c.kind.result ≡ kind_in (start-of-after-kind c).args.lcodes.now (start-of-after-kind c).args.rcodes.now
    ((start-of-after-kind c).args.i * length (start-of-after-kind c).args.rcodes.now + (start-of-after-kind c).args.j)
kind-is c = c.kind.ensures ∙ sym (kind_at (start-of-after-kind c).args.lcodes.now (start-of-after-kind c).args.rcodes.now (start-of-after-kind c).args.i (start-of-after-kind c).args.j
    (start-of-after-kind c).requires.3)

add-expand : tie.Need-overflow_add-kind
add-expand c = let e = kind-is c in let start : tie.Start = search in
    let h = kind-low start.args.lcodes.now start.args.rcodes.now (start.args.i * length start.args.rcodes.now + start.args.j) in omega arith

expand-requires : tie.Need-expand-requires
expand-requires c κs = let start : tie.Start = search in let a = start.args in let f = start.requires.0 in let e = kind-is c.before in
    let h = kind-low a.lcodes.now a.rcodes.now (a.i * length a.rcodes.now + a.j) in (
      (rw f.marked f.paired, start.requires.3, omega (arith, start.requires.3, f.few_b), omega arith, omega arith),
      cut-le f.paired.ascend_a a.i a.cuts.now start.requires.1,
    )

slice-write-marks : tie.Need-bounds-marks-x-2
slice-write-marks c =
    let start : tie.Start = search in let h = low start in let at-expand : tie.After-expand = search in omega (arith, (at-expand.expand.ensures start.args.i start.requires.1).long)

returns : tie.Need-returns
returns c = let start : tie.Start = search in let a = start.args in let at-expand : tie.After-expand = search in passed-visit
    (step-lettered start.requires.0.paired) (kind-low _ _) (a.i * length a.rcodes.now + a.j) _
    refl start.requires.4.big start.requires.4.small
    (ap (λ (k : ℕ). 64 + k) (kind-is (search))) (λ b y s. (b, s)) (at-expand.expand.ensures a.i start.requires.1)

pub visit_spec : {M : Type 1} → statement M
visit_spec = tie.close (tie.spec
    (λ c. let h = low (search) in omega arith) (λ c. let h = low (search) in omega arith) (λ c. let h = low (search) in omega arith) (λ c. search rules) (λ c. search rules)
    (λ c. search rules) (λ c. search rules) (λ c κs. search rules) add-expand expand-requires (λ c. search rules) slice-write-marks (λ c. search rules) returns)
