-- The masks of a tidy cycle, repeated, are those of the word behind its tidy lead-in.
use mathlib.Core.Path.{◌≡◌, refl, sym, ◌∙◌, ap}
use mathlib.Core.Bool.{cond}
use mathlib.Core.List.{List, [], ◌++◌}
use Prim.Native.Nat.{ℕ, zero, suc, ◌+◌, ◌-◌, ◌<◌}
use native.Mathlib.Omega.{arith}
use native.Mathlib.Nat.{zero-add}
use lib.Dec.{eqb}
use lib.ListN.{length, get_or, take, drop, length-drop}
use lib.Seq.{ext_get_or}
use Rattle.theory.specs.Passing.{Passing}
use Rattle.theory.specs.Rule.{Rule}
use Rattle.theory.specs.Truth.{truth_masks}
use Rattle.theory.specs.Word.{places, next_place_lem, place}
use Rattle.theory_laws.proofs.Truth.{truth-length}
use Rattle.judge_place.specs.Starts.{back_over}
use Rattle.word_spelling_spec.specs.SpellingComputed.{lead_length_lem, tidy_cycle}
use Rattle.word_spelling_spec.proofs.Tidied.{lead-max}
use Rattle.sheet_laws.proofs.Shared.{tail-mask, whole-masks}
use Rattle.sheet_cycles.specs.Repeats.{repeated}
use Rattle.sheet_cycles.proofs.Repeats.{repeated-length, repeated-at}

-- the places of a cycle's steps depend on its length alone
next-length : (x y : List ℕ) → length x ≡ length y → (p : ℕ) → next_place_lem [] x p ≡ next_place_lem [] y p
unfolding next_place_lem
next-length x y e p = ap (λ (n : ℕ). cond (eqb (suc p) (0 + n)) 0 (suc p)) e

place-length : (x y : List ℕ) → length x ≡ length y → (j : ℕ) → place (next_place_lem [] x) j ≡ place (next_place_lem [] y) j
unfolding place
place-length x y e zero = refl
place-length x y e (suc j) = next-length x y e (place (next_place_lem [] x) j) ∙ ap (next_place_lem [] y) (place-length x y e j)

module _ (lead cycle : List ℕ) (repeats : 0 < length cycle) (r : Rule) (P : Passing r) where
  abbrev m : ℕ
  m = lead_length_lem lead cycle

  abbrev masks : List ℕ
  masks = truth_masks r [] (tidy_cycle lead cycle)

  repeated-tail : repeated masks (places lead cycle - m) ≡ truth_masks r (drop m lead) cycle
  repeated-tail =
      let most = lead-max lead cycle repeats in
      let behind : length (truth_masks r (drop m lead) cycle) ≡ places lead cycle - m = truth-length r (drop m lead) cycle ∙ omega (arith, length-drop m lead) in
      ext_get_or 0 (repeated masks (places lead cycle - m)) (truth_masks r (drop m lead) cycle) (repeated-length masks (places lead cycle - m) ∙ sym behind)
      (λ j l.
      let k : j < places lead cycle - m = omega (arith, repeated-length masks (places lead cycle - m)) in
      repeated-at masks (places lead cycle - m) j k
      ∙ ap (λ (p : ℕ). get_or masks p 0) (place-length masks (tidy_cycle lead cycle) (truth-length r [] (tidy_cycle lead cycle) ∙ zero-add (length (tidy_cycle lead cycle))) j)
      ∙ sym (tail-mask lead cycle repeats r P j (omega (arith, length-drop m lead))))

  -- the masks of the word, in front of what follows them
  pub word-masks : (rest : List ℕ) → back_over r (take m lead) (repeated masks (places lead cycle - m) ++ rest) ≡ truth_masks r lead cycle ++ rest
  word-masks rest = ap (λ (l : List ℕ). back_over r (take m lead) (l ++ rest)) repeated-tail ∙ whole-masks lead cycle repeats r P rest
