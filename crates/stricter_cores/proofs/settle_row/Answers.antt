-- `settle_row` meets its contract: the pair at x is settled, and those up to the next one that is in are out.
use Rattle.std.proofs.Common.{sym, refl, ◌∙◌, inl, inr, ⊎_elim, Bool, ◌||◌, eqb, List, ℕ, ◌+◌, ◌/◌, ◌≤◌, ◌<◌, length, get_or, arith}
use borrow.Author.Tests.{eqb-true, eqb-false}
use lib.ListN.{set}
use Rattle.sets.proofs.Bools.{or_cases, or-fl, or-fr}
use Rattle.table_fixpoints_spec.proofs.Places.{place-room}
use Rattle.stricter_laws.specs.Parts.{Settled}
use Rattle.stricter_laws.proofs.Fitting.{row_out}
use Rattle.stricter_laws.proofs.Settling.{settled-out, settled-zeros, settled-next}
use Rattle.stricter_cores.proofs.settle_row.Goals as goal

one_more : {from i : ℕ} {old ms : List ℕ} {a : Bool} → Settled from i old ms a → from ≤ i → i < length ms
    → Settled from (i + 1) old (set ms i (get_or ms i 0 / 2)) (a || eqb (get_or ms i 0) 1)
one_more {i = i} {ms = ms} {a = a} s f l = let v = get_or ms i 0 in
    settled-next s f l (v / 2) refl (a || eqb v 1) (λ e. ⊎_elim (λ t. inl t) (λ t. inr (eqb-true v 1 t)) (or_cases a (eqb v 1) e))
    (λ e. (or-fl a (eqb v 1) e, eqb-false v 1 (or-fr a (eqb v 1) e)))

pub returns-then-not-stands : goal.returns-then-not-stands
returns-then-not-stands c = settled-out _ _ _ (row_out _ _ _ c.requires.1 c.args.i (sym c.stands.ensures ∙ c.if-not-stands.true))

pub loop-x-preserved : goal.loop-x-preserved
loop-x-preserved c = let n = c.next_set-x-in-loop-x.ensures in let i = c.loop-x.invariant in record {
  from = omega (arith, n.before.ordered);
  within = n.within;
  settled = settled-zeros _ (one_more i.settled i.from (omega (arith, place-room c.args.nb c.args.i (length c.args.acodes.now) c.requires.2))) (omega arith) n.before.ordered n.before.zeros;
}
