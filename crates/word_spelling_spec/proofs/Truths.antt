-- What holds of a sequence holds of each of its spellings: the truth at each step, the verdict, and the accepting run.
use mathlib.Core.Path.{◌≡◌, sym, ◌∙◌, ap, fun_ext}
use mathlib.Core.Logic.{◌↔◌}
use mathlib.Core.List.{List}
use Prim.Native.Nat.{ℕ, ◌<◌}
use lib.ListN.{length, get_or}
use Rattle.sets.specs.Tests.{Set}
use Rattle.sets.proofs.Bools.{iff}
use Rattle.sets.proofs.Bits.{bit-ext}
use Rattle.theory.specs.Automaton.{automaton}
use Rattle.theory.specs.Code.{set_in}
use Rattle.theory.specs.Demand.{Demand3}
use Rattle.theory.specs.Macrostate.{holds_initial}
use Rattle.theory.specs.Passing.{Passing}
use Rattle.theory.specs.Plan.{AcceptsFrom, AcceptsWord}
use Rattle.theory.specs.Rule.{Rule}
use Rattle.theory.specs.Run.{AcceptingRun}
use Rattle.theory.specs.Truth.{truth_masks}
use Rattle.theory.specs.Word.{next_place_lem, place, letters}
use Rattle.theory_laws.proofs.Demand.{word-run, one-run}
use Rattle.theory_laws.proofs.Places.{places-low}
use Rattle.theory_laws.proofs.Truth.{truth-accepts, truth-lt}
use Rattle.word_spelling_spec.specs.Spelling.{Agree}

module _ (l₁ c₁ l₂ c₂ : List ℕ) (same : Agree l₁ c₁ l₂ c₂) where
  module _ (r : Rule) (P : Passing r) (h₁ : 0 < length c₁) (h₂ : 0 < length c₂) where
    -- the rule accepts from a state at a step of one spelling exactly if it does at that step of the other
    pub truth-spelled : (i q : ℕ) → q < r.n → AcceptsFrom r l₁ c₁ q (place (next_place_lem l₁ c₁) i) ↔ AcceptsFrom r l₂ c₂ q (place (next_place_lem l₂ c₂) i)
    truth-spelled i q l =
        let c = word-run r P l₁ c₁ h₁ in
        let d = word-run r P l₂ c₂ h₂ in
        let e : c.0 i ≡ d.0 i = one-run r P (letters l₂ c₂) c.0 d.0 (rw (fun_ext same) at c.1.run) d.1.run i in
        let a = c.1.truth i q l in
        let b = d.1.truth i q l in (
          λ x. b.0 (ap (λ (z : ℕ). set_in (automaton r) z q) (sym e) ∙ a.1 x),
          λ x. a.0 (ap (λ (z : ℕ). set_in (automaton r) z q) e ∙ b.1 x),
        )

    -- the masks at one step
    pub mask-spelled : (i : ℕ) → get_or (truth_masks r l₁ c₁) (place (next_place_lem l₁ c₁) i) 0 ≡ get_or (truth_masks r l₂ c₂) (place (next_place_lem l₂ c₂) i) 0
    mask-spelled i =
        bit-ext r.n _ _ (truth-lt r l₁ c₁ (place (next_place_lem l₁ c₁) i)) (truth-lt r l₂ c₂ (place (next_place_lem l₂ c₂) i))
        (λ q l.
        let a = truth-accepts r P l₁ c₁ h₁ (place (next_place_lem l₁ c₁) i) q (places-low l₁ c₁ h₁ i) l in
        let b = truth-accepts r P l₂ c₂ h₂ (place (next_place_lem l₂ c₂) i) q (places-low l₂ c₂ h₂ i) l in
        let t = truth-spelled i q l in
        iff _ _ (λ x. b.1 (t.0 (a.0 x))) (λ x. a.1 (t.1 (b.0 x))))

    -- the verdict
    pub verdict-spelled : AcceptsWord r l₁ c₁ ↔ AcceptsWord r l₂ c₂
    verdict-spelled = unfold place in truth-spelled 0 r.initial P.formed.initial_state

  -- an accepting run of a table over one spelling is one over the other
  pub run-spelled : (codes transitions : List ℕ) (start : Set) (x : ℕ → ℕ)
      → AcceptingRun codes transitions start (letters l₁ c₁) x ↔ AcceptingRun codes transitions start (letters l₂ c₂) x
  run-spelled codes transitions start x = (λ a. rw (fun_ext same) at a, λ a. rw (← fun_ext same) at a)

  -- of a built table, the accepting run over one spelling is that over the other
  pub same-run : (r : Rule) (codes transitions : List ℕ) → Demand3 r codes transitions → (x y : ℕ → ℕ)
      → AcceptingRun codes transitions (holds_initial r) (letters l₁ c₁) x → AcceptingRun codes transitions (holds_initial r) (letters l₂ c₂) y → (i : ℕ) → x i ≡ y i
  same-run r codes transitions D x y a b = D.unambiguous (letters l₂ c₂) x y ((run-spelled codes transitions (holds_initial r) x).0 a) b
