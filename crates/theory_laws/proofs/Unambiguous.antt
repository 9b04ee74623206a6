-- Two accepting runs over the same letters are the same.
use mathlib.Core.Path.{◌≡◌, sym, ◌∙◌, ap, fun_ext}
use mathlib.Core.Logic.{by_cases}
use Prim.Native.Nat.{ℕ, zero, suc}
use native.Mathlib.Omega.{arith}
use native.Mathlib.Decide.{dec_lt, ℕ_discrete}
use Rattle.sets.specs.Tests.{Set}
use Rattle.theory.specs.Automaton.{Automaton}
use Rattle.theory.specs.Layered.{Layered}
use Rattle.theory.specs.Core.{next_component_lem}
use Rattle.theory_laws.proofs.Breakpoint.{certified}
use Rattle.theory_laws.proofs.Certified.{Run}
use Rattle.theory_laws.proofs.Pursuit.{unique}
use Rattle.theory_laws.proofs.Ranks.{ranks-unique}

module _ (A : Automaton) (H : Layered A) (B : ℕ) (w : ℕ → ℕ) (S1 S2 : ℕ → Set) (r1 r2 : ℕ → ℕ → ℕ) (K1 K2 k1 k2 : ℕ → ℕ)
    (run1 : Run A B w S1 r1 K1 k1) (run2 : Run A B w S2 r2 K2 k2) where
  pub same-S : S1 ≡ S2
  same-S = fun_ext (λ i. fun_ext (λ q. by_cases (dec_lt q A.n)
      (λ l. unique A H suc w S1 S2 (certified A H B w S1 r1 K1 k1 run1) (certified A H B w S2 r2 K2 k2 run2) i q l)
      (λ l. run1.trim-S i q (omega arith) ∙ sym (run2.trim-S i q (omega arith)))))

  pub same-r : r1 ≡ r2
  same-r = fun_ext (λ i. fun_ext (λ q. by_cases (dec_lt q A.n)
      (λ l. ranks-unique A H B w S1 (certified A H B w S1 r1 K1 k1 run1) r1 r2 run1.backed (rw (← same-S) at run2.backed) i q l)
      (λ l. run1.trim-r i q (omega arith) ∙ sym (run2.trim-r i q (omega arith)))))

  pub same-Kk : (i : ℕ) → (K1 i ≡ K2 i) × (k1 i ≡ k2 i)
  same-Kk zero = (run1.start-K ∙ sym run2.start-K, run1.start-k ∙ sym run2.start-k)
  same-Kk (suc i) =
      let ih = same-Kk i in
      by_cases (ℕ_discrete (k1 i) 0)
      (λ z. let z2 = sym ih.1 ∙ z in
      let a : K1 (suc i) ≡ K2 (suc i) = run1.turn-K i z ∙ ap (next_component_lem A) ih.0 ∙ sym (run2.turn-K i z2) in
      (a, run1.turn-k i z ∙ rw (same-S, same-r, a) (sym (run2.turn-k i z2))))
      (λ z. let z2 : k2 i ≡ 0 → ⊥ = λ e. z (ih.1 ∙ e) in
      (run1.stay-K i z ∙ ih.0 ∙ sym (run2.stay-K i z2), run1.stay-k i z ∙ rw (same-S, same-r, ih.0, ih.1) (sym (run2.stay-k i z2))))
