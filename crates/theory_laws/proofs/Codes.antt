-- Runs of codes are runs, so there is at most one over each sequence of letters.
use mathlib.Core.Path.{◌≡◌, sym, ◌∙◌, ap, ap₂}
use mathlib.Core.Bool.{true}
use Prim.Native.Nat.{ℕ, suc}
use borrow.Author.Tests.{eqb-true}
use Rattle.sets.specs.Tests.{Set}
use Rattle.theory.specs.Automaton.{Automaton}
use Rattle.theory.specs.Layered.{Layered}
use Rattle.theory.specs.Code.{set_in, rank_in, component_in, classes_in, pack, well_coded}
use Rattle.theory.specs.Macrostate.{is_accepting_lem}
use Rattle.theory.specs.MacrostateComputed.{goes}
use Rattle.theory.specs.CodeRuns.{CodeRun}
use Rattle.theory_laws.proofs.Certified.{Run}
use Rattle.theory_laws.proofs.Goes.{rank-small, set-trim, rank-trim, before-rank, goes_before, goes-onward, stay-classes, goes-iff}
use Rattle.theory_laws.proofs.Unambiguous.{same-S, same-r, same-Kk}

module _ (A : Automaton) (H : Layered A) (w c : ℕ → ℕ) (run : CodeRun A w c) where
  tested : (i : ℕ) → goes A (c i) (w i) (c (suc i)) ≡ true
  tested i = (goes-iff A H (c i) (w i) (c (suc i))).1 (run.steps i)

  pub run_of : Run A 15 w (λ i. set_in A (c i)) (λ i. rank_in A (c i)) (λ i. component_in (c i)) (λ i. classes_in (c i))
  unfolding is_accepting_lem
  run_of = record {
    backed = record {
      exact = λ i. (run.steps i).earlier.exact;
      ranked = λ i. before-rank A (c i) (w i) (c (suc i)) (goes_before A (c i) (w i) (c (suc i)) (tested i));
      bound = λ i q l. rank-small A (c i) q;
    };
    trim-S = λ i q l. set-trim A (c i) q l;
    trim-r = λ i q l. rank-trim A (c i) q l;
    start-K = run.component;
    start-k = run.classes;
    turn-K = λ i. (run.steps i).next;
    turn-k = λ i. (run.steps i).all;
    stay-K = λ i. (run.steps i).stays;
    stay-k = λ i. stay-classes A (c i) (w i) (c (suc i)) (goes-onward A (c i) (w i) (c (suc i)) (tested i));
    accepts = λ i. let a = run.again i in (a.0, a.1, eqb-true (classes_in (c a.0)) 0 a.2);
  }

-- two runs of codes over the same letters are the same
pub code-unique : (A : Automaton) → Layered A → (w c d : ℕ → ℕ) → CodeRun A w c → CodeRun A w d → (i : ℕ) → c i ≡ d i
unfolding well_coded
code-unique A H w c d r s i =
    let x = same-S A H 15 w _ _ _ _ _ _ _ _ (run_of A H w c r) (run_of A H w d s) in
    let y = same-r A H 15 w _ _ _ _ _ _ _ _ (run_of A H w c r) (run_of A H w d s) in
    let z = same-Kk A H 15 w _ _ _ _ _ _ _ _ (run_of A H w c r) (run_of A H w d s) i in
    sym (eqb-true _ _ (r.macrostate i).coded)
    ∙ ap₂ (λ (f : Set) (g : ℕ → ℕ). pack f g (component_in (c i)) (classes_in (c i))) (ap (λ (f : ℕ → Set). f i) x) (ap (λ (g : ℕ → ℕ → ℕ). g i) y)
    ∙ ap₂ (pack (set_in A (d i)) (rank_in A (d i))) z.0 z.1
    ∙ eqb-true _ _ (s.macrostate i).coded
