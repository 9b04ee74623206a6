-- The word of letter 0 for ever: E accepts it and F rejects it, so E is not stricter than F.
use mathlib.Core.Path.{◌≡◌, refl, sym, ◌∙◌, ap}
use mathlib.Core.Bool.{true, false, true≢false}
use mathlib.Core.List.Memᴰ
use mathlib.Core.List.{List, [], ◌∷◌}
use Prim.Native.Nat.{ℕ}
use native.Mathlib.Omega.{arith}
use Rattle.sets.specs.Lists.{sum}
use Rattle.sets.specs.Masks.{bit}
use Rattle.theory.specs.Automaton.{automaton}
use Rattle.theory.specs.Examples.{E, F}
use Rattle.theory.specs.Plan.{Reach, here, on, AcceptsWord}
use Rattle.theory.specs.Rule.{entry}
use Rattle.theory.specs.Word.{next_place_lem, letter_at_lem}
use Rattle.theory.proofs.AboutExamples.{rejecting-cycle}
use Rattle.stricter_spec.specs.Rules.{Stricter, Against}

abbrev zeros : List ℕ
zeros = 0 ∷ []

-- the plan that takes E's clause is always at state 0 and place 0
stays : {q p : ℕ} → Reach (automaton E) (next_place_lem [] zeros) (letter_at_lem [] zeros) (λ _ _. 1) 0 0 q p → (q ≡ 0) × (p ≡ 0)
unfolding automaton next_place_lem
stays here = (refl, refl)
stays (on {q = q} {p = p} r y R l b e) = let h = stays R in (omega arith, e ∙ ap (next_place_lem [] zeros) h.1)

accepted-zeros : AcceptsWord E [] zeros
unfolding automaton entry letter_at_lem sum bit
accepted-zeros = record {
  pick = λ _ _. 1;
  valid = λ q p R. let h = stays R in rw (h.0, h.1) (Memᴰ.head refl);
  fair = λ q p R n. let h = stays R in let e : true ≡ false = sym (ap (bit 1) h.0) ∙ n in absurd (true≢false e);
}

pub against-F : Against E F [] zeros
against-F = record {
  word = record {
    repeats = omega arith;
    lead_letters = λ a m. absurd (Memᴰ.not-nil m);
    cycle_letters = λ a m. let e = Memᴰ.eq_of_singleton m in omega arith;
  };
  accepted = accepted-zeros;
  rejected = rejecting-cycle;
}

pub not-stricter-F : Stricter E F → ⊥
not-stricter-F S = rejecting-cycle (S [] zeros against-F.word accepted-zeros)
