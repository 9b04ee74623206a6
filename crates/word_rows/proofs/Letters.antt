-- The letter at a place.
use mathlib.Core.Path.{◌≡◌, sym, ◌∙◌, ap}
use mathlib.Core.List.{List, ◌++◌}
use Prim.Native.Nat.{ℕ, ◌+◌, ◌-◌, ◌≤◌, ◌<◌}
use native.Mathlib.Omega.{arith}
use lib.ListN.{length, get_or, get_or-append}
use lib.Seq.{get_or-append-add}
use Rattle.theory.specs.Word.{letter_at_lem}

module _ (lead cycle : List ℕ) (p : ℕ) where
  pub in-lead : p < length lead → get_or lead p 0 ≡ letter_at_lem lead cycle p
  in-lead h = unfold letter_at_lem in sym (get_or-append lead cycle 0 p h)

  pub in-cycle : length lead ≤ p → get_or cycle (p - length lead) 0 ≡ letter_at_lem lead cycle p
  unfolding letter_at_lem
  in-cycle h =
      let e : length lead + (p - length lead) ≡ p = omega arith in
      sym (ap (λ (x : ℕ). get_or (lead ++ cycle) x 0) (sym e) ∙ get_or-append-add lead cycle (p - length lead) 0)
