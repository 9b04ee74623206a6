-- `rewrite_all` meets its contract: the first w transitions are what is left of those before i.
use Rattle.std.proofs.Common.{◌≡◌, List, ℕ, ◌<◌, length, get_or, sym, ap, ◌∙◌, arith}
use Rattle.sets.proofs.Lists.{mem-at}
use Rattle.theory.specs.Run.{source_of, target_of}
use Rattle.trim_spec.specs.Graph.{Inside}
use Rattle.trim_spec.specs.Trimmed.{is_left_lem}
use Rattle.trim_spec.specs.Tagged.{highs, rewrite, rewritten}
use Rattle.theory_laws.proofs.Ends.{rewritten-yes, rewritten-no, rewritten-none}
use Rattle.trim.proofs.Compacting.{Compacting, compact-at, compact-keep, compact-skip, compact-count, compact-end}
use Rattle.trim.proofs.number.rewrite_all.Goals as goal
use Rattle.trim.proofs.number.rewrite_all.Goals.{then-is_left, else-is_left}

-- the transition at i has its ends among the n codes
ends : (F : List ℕ → List ℕ) (n : ℕ) (old ts : List ℕ) (w i : ℕ) → Inside n old → i < length old → Compacting F old ts w i → (source_of (get_or ts i 0) < n) × (target_of (get_or ts i 0) < n)
ends F n old ts w i h l v = let m = mem-at old i l in rw (compact-at F old ts w i l v) (h.sources (get_or old i 0) m, h.targets (get_or old i 0) m)

pub is_left-requires : goal.is_left-requires
is_left-requires c = ends _ _ _ _ _ _ c.requires (omega arith) c.loop-i.invariant

pub rewritten_one-requires : goal.rewritten_one-requires
rewritten_one-requires c = let (s, t) = ends _ _ _ _ _ _ c.requires (omega arith) c.loop-i.invariant in (s, t, sym c.is_left.ensures ∙ c.if-is_left.true)

pub loop-i-preserved : goal.loop-i-preserved
loop-i-preserved c =
    let l = c.loop-i in let ts = c.args.transitions.now in let tags = highs c.args.codes.now in let F = rewritten tags in
    let e = compact-at F ts l.transitions l.w l.i (omega arith) l.invariant in let t = get_or ts l.i 0 in
    let told : is_left_lem tags t ≡ c.is_left.result = ap (is_left_lem tags) (sym e) ∙ sym c.is_left.ensures in elim c.if-is_left.branch [
      | then-is_left w ↦ let v : w.rewritten_one.result ≡ rewrite tags t = w.rewritten_one.ensures ∙ ap (rewrite tags) e in
          rw (w.transitions-is, w.w-is, v) (compact-keep F ts l.transitions l.w l.i (omega arith) l.invariant _ (rewritten-yes tags _ _ (told ∙ w.if-is_left.true)))
      | else-is_left w ↦ rw (w.transitions-is, w.w-is) (compact-skip F ts l.transitions l.w l.i (omega arith) l.invariant (rewritten-no tags _ _ (told ∙ w.if-is_left.false)))
    ]

pub returns : goal.returns
returns c = let l = c.loop-i in let ts = c.args.transitions.now in let tags = highs c.args.codes.now in (
  compact-count (rewritten tags) ts l.transitions l.w l.i (omega arith) (rewritten-none tags) l.invariant,
  c.zero_from.ensures ∙ compact-end (rewritten tags) ts l.transitions l.w l.i (omega arith) (rewritten-none tags) l.invariant,
)
