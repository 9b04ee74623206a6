-- Over a word with a cycle there is an accepting run, and its set at each step is the truth at the step's place.
use mathlib.Core.Path.{◌≡◌}
use mathlib.Core.Logic.{◌↔◌}
use mathlib.Core.Bool.{true}
use Prim.Native.Nat.{ℕ, ◌*◌, ◌≤◌, ◌<◌}
use Rattle.sets.specs.Tests.{Set}
use Rattle.theory.specs.Automaton.{Automaton}
use Rattle.theory.specs.Layered.{Layered}
use Rattle.theory.specs.Plan.{Accepts}
use Rattle.theory.specs.Word.{place}
use Rattle.theory_laws.proofs.Certified.{Run}
use Rattle.theory_laws.proofs.Existence.{rk, work, run}
use Rattle.theory_laws.proofs.FixedPoint.{place-below, Sp, Si, wi, exact, near-open, trimmed, solved-certified}
use Rattle.theory_laws.proofs.PlanOfSet.{accepted}
use Rattle.theory_laws.proofs.SetOfPlan.{true-in}

-- an accepting run over a word whose places follow by nx and have the letters w
pub record Truthful (A : Automaton) (B : ℕ) (nx w : ℕ → ℕ) : Type 0 where
  pub S : ℕ → Set
  pub r : ℕ → ℕ → ℕ
  pub K : ℕ → ℕ
  pub k : ℕ → ℕ
  pub run : Run A B (λ i. w (place nx i)) S r K k
  pub truth : (i q : ℕ) → q < A.n → (S i q ≡ true) ↔ Accepts A nx w q (place nx i)

module _ (A : Automaton) (H : Layered A) (B : ℕ) (room : A.n ≤ B) (L : ℕ) (nx w : ℕ → ℕ) (stays : (p : ℕ) → p < L → nx p < L) (some-place : 0 < L) where
  pub truthful : Truthful A B nx w
  truthful =
      let c = solved-certified A H L nx w stays some-place in
      record {
        S = Si A H L nx w stays;
        r = rk A H B room (wi A H L nx w stays) (Si A H L nx w stays) c;
        K = λ i. (work A H B room (wi A H L nx w stays) (Si A H L nx w stays) c i).component;
        k = λ i. (work A H B room (wi A H L nx w stays) (Si A H L nx w stays) c i).left;
        run = run A H B room (wi A H L nx w stays) (Si A H L nx w stays) c (λ i x m. trimmed A H L nx w stays (place nx i) x m);
        truth = λ i q l. (
          accepted A H L nx w stays (Sp A H L nx w stays) (exact A H L nx w stays) (L * A.n) (near-open A H L nx w stays) q (place nx i) l (place-below L nx stays some-place i),
          λ P. true-in A H L nx w stays (Sp A H L nx w stays) (exact A H L nx w stays) (L * A.n) (near-open A H L nx w stays) q (place nx i) P l (place-below L nx stays some-place i),
        );
      }
