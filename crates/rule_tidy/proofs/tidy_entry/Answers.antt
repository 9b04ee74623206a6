-- `tidy_entry` meets its contract: one clause more is kept, or is not.
use Rattle.std.proofs.Common.{◌+◌, List, ℕ, take, drop, refl, sym, ap, ◌∙◌, arith}
use Rattle.rule_tidy_spec.specs.Tidy.{tidy_from, tidy_entry_lem}
use Rattle.rule_tidy.proofs.Laws.{tidy-next, tidy-end, drop-later, filled-by}
use Rattle.rule_tidy.proofs.tidy_entry.Goals as goal

pub loop-c-init : goal.loop-c-init
unfolding tidy_entry_lem
loop-c-init c = record { few = omega arith; rest = refl; front = refl }

pub loop-c-preserved : goal.loop-c-preserved
loop-c-preserved c = let a = c.args in let l = c.loop-c in let K = c.keep-k.ensures in record {
  few = omega (arith, K.most);
  rest = K.rest ∙ drop-later l.out a.out.now l.k c.keep-k.result K.fewest l.invariant.rest;
  front = ap (λ (f : List ℕ). tidy_from 8 a.clauses.now f (drop (l.c-index + 1) a.clauses.now)) K.front
      ∙ sym (tidy-next a.clauses.now (take l.k l.out) l.c-index (omega arith)) ∙ l.invariant.front;
}

pub returns : goal.returns
returns c = let a = c.args in let l = c.loop-c in
    let f = filled-by (tidy_entry_lem 8 a.clauses.now) l.out a.out.now l.k (omega arith)
    (sym (tidy-end a.clauses.now (take l.k l.out) l.c-index (omega arith)) ∙ l.invariant.front) l.invariant.rest in record { value = f.0; out_after = f.1 }
