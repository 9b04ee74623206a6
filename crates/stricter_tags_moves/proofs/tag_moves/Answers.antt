-- `tag_moves` meets its contract: what stands at the place is still a transition, which gets its tags.
use Rattle.std.proofs.Common.{◌≡◌, ◌∙◌, ap, inr, List, ℕ, ◌+◌, ◌*◌, ◌<◌, length, get_or, arith}
use mathlib.Core.List.{Memᴰ}
use Rattle.sets.proofs.Lists.{mem-at}
use Rattle.theory.specs.Automaton.{automaton}
use Rattle.theory.specs.TableComputed.{macrostates_from}
use Rattle.stricter_spec.specs.Tags.{tag_of}
use Rattle.stricter_laws.specs.Fill.{Filled}
use Rattle.stricter_laws.proofs.Fill.{filled_next}
use Rattle.stricter_tags_moves.proofs.tag_moves.Goals as goal

here : {f : ℕ → ℕ} {from i : ℕ} {old new ts : List ℕ} → Filled f from i old new → old ≡ ts → i < length old → Memᴰ (get_or new i 0) ts
here {i = i} {old = old} F e l = rw (F.outside i (inr (omega arith)), ← e) (mem-at old i l)

pub tag_move-requires : goal.tag_move-requires
tag_move-requires c = let (r, s, T, few, C, e) = c.requires in (r, s, T, few, C, here (c.loop-t.invariant r s T few C e) e (omega arith))

pub loop-t-preserved : goal.loop-t-preserved
loop-t-preserved c = λ r s T few C e. let F = c.loop-t.invariant r s T few C e in
    filled_next c.tag_move.result (omega arith) (omega arith) F
    (c.tag_move.ensures r s T few C (here F e (omega arith))
    ∙ ap (λ (t : ℕ). t + 1099511627776 * tag_of (automaton r) (macrostates_from r s) t) (F.outside c.loop-t.t-index (inr (omega arith))))
