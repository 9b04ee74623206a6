-- `expand` meets its contract: the transitions of number j stand together, and each is tried with those of the same letter.
use Rattle.std.proofs.Common.{◌≡◌, ◌∙◌, ℕ, ◌+◌, ◌≤◌, ◌<◌, List, length, get_or, take, ap, arith}
use lib.Seq.{take-length}
use Rattle.sets.proofs.Lists.{mem-at}
use Rattle.slice_search.specs.Places.{below}
use Rattle.theory.specs.Run.{letter_of_lem, target_of}
use Rattle.stricter_laws.specs.Pairs.{Paired}
use Rattle.stricter_laws.proofs.Expand.{expand-next, expand-end}
use Rattle.stricter_word.proofs.explore.expand.Goals as goal

-- the letter is below 16
low : {nb size : ℕ} {left right : List ℕ} → Paired nb left right size → (k a : ℕ) → k < length right → a ≡ letter_of_lem (get_or right k 0) → a < 16
low {right = right} P k a h e = rw e (P.lettered _ (mem-at right k h))

-- the row of number j begins where the loop does
begins : (x k place : ℕ) (right : List ℕ) → place ≡ below x (take (length right) right) → place ≤ k → below x right ≤ k
begins x k place right e h = omega (arith, e ∙ ap (below x) (take-length right))

pub returns-then-source_of-j : goal.returns-then-source_of-j
returns-then-source_of-j c = let l = c.loop-k in
    λ i cut. expand-end c.requires.paired.0 c.args.j c.requires.paired.1 i c.args.cuts.now cut c.args.base l.k
    (begins _ l.k c.place-k.result c.args.right.now c.place-k.ensures (omega arith)) (λ h e. c.if-source_of-j.true (c.source_of.ensures ∙ e)) (l.invariant i cut)

pub bounds-cuts-a : goal.bounds-cuts-a
bounds-cuts-a c = let h = low c.requires.paired.0 c.loop-k.k _ (omega arith) c.letter_of-a.ensures in omega arith

pub bounds-cuts-a-in-loop-k : goal.bounds-cuts-a-in-loop-k
bounds-cuts-a-in-loop-k c = let h = low c.requires.paired.0 c.loop-k.k _ (omega arith) c.letter_of-a.ensures in omega arith

pub overflow_mul-a : goal.overflow_mul-a
overflow_mul-a c = let h = low c.requires.paired.0 c.loop-k.k _ (omega arith) c.letter_of-a.ensures in omega arith

pub overflow_add-base : goal.overflow_add-base
overflow_add-base c = let h = low c.requires.paired.0 c.loop-k.k _ (omega arith) c.letter_of-a.ensures in omega arith

pub meet-requires : goal.meet-requires
meet-requires c = let P = c.requires.paired.0 in let k = c.loop-k.k in let h = low P k _ (omega arith) c.letter_of-a.ensures in
    let u = get_or c.args.right.now k 0 in let m = mem-at c.args.right.now k (omega arith) in let e : c.target_of.result ≡ target_of u = c.target_of.ensures in (
      c.requires.by_index (c.letter_of-a.result + 1) (omega arith),
      omega arith,
      λ t n. let o = P.onto t (target_of u) n (P.targets u m) in rw e (omega arith),
    )

pub loop-k-preserved : goal.loop-k-preserved
loop-k-preserved c = let l = c.loop-k in
    λ i cut. expand-next c.requires.paired.0 c.args.j c.requires.paired.1 i c.args.cuts.now cut c.args.base (omega arith) c.args.marks.now l.marks _ l.k
    c.letter_of-a.result c.target_of.result (omega arith) (omega (arith, c.source_of.ensures, c.if-source_of-j.false)) c.letter_of-a.ensures c.target_of.ensures
    (l.invariant i cut) c.meet.ensures

pub returns : goal.returns
returns c = let l = c.loop-k in
    λ i cut. expand-end c.requires.paired.0 c.args.j c.requires.paired.1 i c.args.cuts.now cut c.args.base l.k
    (begins _ l.k c.place-k.result c.args.right.now c.place-k.ensures (omega arith)) (λ h. absurd (omega arith)) (l.invariant i cut)
