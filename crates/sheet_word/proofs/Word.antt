-- One word of a sheet, faulty or served.
use mathlib.Core.Path.{◌≡◌, refl, sym, ◌∙◌, ap}
use mathlib.Core.Bool.{Bool}
use mathlib.Core.List.{List}
use Prim.Native.Nat.{ℕ, zero, suc, ◌+◌, ◌≤◌, ◌<◌}
use native.Mathlib.Omega.{arith}
use lib.ListN.{length, get_or, replicate, length-append, get_or-append}
use Rattle.sets.specs.Masks.{bit}
use Rattle.sets.specs.Tests.{one}
use Rattle.theory.specs.Rule.{Rule}
use Rattle.theory.specs.Truth.{truth_masks}
use Rattle.theory_laws.proofs.Truth.{truth-length}
use Rattle.judge_spec.specs.Judge.{holds_start}
use Rattle.sheet_spec.specs.Words.{lead_of, cycle_of, fault_of}
use Rattle.sheet_spec.specs.Computed.{answer_of, masks_by, masks_of_lem, learn_by}
use Rattle.sheet_words.specs.Places.{word_from}
use Rattle.sheet_cycles.specs.Known.{known_of}
use Rattle.sheet_cycles.specs.Filled.{Filled}
use Rattle.sheet_word.specs.Word.{Served, WordJudged}

module _ {r : Rule} {sheet : List ℕ} {at : ℕ} {from size : List ℕ} {n : ℕ} where
  pub judged-faulty : (k : ℕ) → (k ≡ 0 → ⊥) → k ≡ fault_of r.s (word_from sheet at) → {filled block : List ℕ} → Filled r sheet from size filled n → block ≡ replicate 64 0
      → WordJudged r sheet at from size n from size filled block (record { answer = k; cycles = n })
  unfolding answer_of masks_of_lem
  judged-faulty zero z e F b = absurd (z refl)
  judged-faulty (suc k) z e F b =
      let f : fault_of r.s (word_from sheet at) ≡ suc k = sym e in
      record { answer = rw f; served = record { masks = rw f b; known = rw f; filled = F; one = omega arith } }

  -- a word that is not faulty
  module _ (sound : fault_of r.s (word_from sheet at) ≡ 0) {from' size' filled' block : List ℕ} {cycles : ℕ} where
    pub served-by : block ≡ masks_by r 0 (word_from sheet at) → known_of sheet from' size' cycles ≡ learn_by 0 (known_of sheet from size n) (word_from sheet at)
        → Filled r sheet from' size' filled' cycles → cycles ≤ n + 1 → Served r sheet at from size n from' size' filled' block cycles
    unfolding masks_of_lem
    served-by m k F o = record { masks = rw sound m; known = rw sound k; filled = F; one = o }

    module _ (S : Served r sheet at from size n from' size' filled' block cycles) (repeats : 0 < length (cycle_of (word_from sheet at))) where
      all-masks : block ≡ masks_by r 0 (word_from sheet at)
      unfolding masks_of_lem
      all-masks = rw sound at S.masks

      -- the first mask is there
      pub first-there : 0 < length block
      first-there = rw all-masks (simp length-append (omega (arith, truth-length r (lead_of (word_from sheet at)) (cycle_of (word_from sheet at)))))

      -- b tells whether it holds the initial state
      pub judged-served : (b : Bool) → bit (get_or block 0 0) r.initial ≡ b → WordJudged r sheet at from size n from' size' filled' block (record { answer = one b; cycles = cycles })
      unfolding answer_of
      judged-served b e =
          let u = lead_of (word_from sheet at) in let v = cycle_of (word_from sheet at) in
          let first : get_or block 0 0 ≡ get_or (truth_masks r u v) 0 0
          = ap (λ (l : List ℕ). get_or l 0 0) all-masks ∙ get_or-append (truth_masks r u v) _ 0 0 (omega (arith, truth-length r u v)) in
          let holds : holds_start r u v ≡ b = ap (λ (x : ℕ). bit x r.initial) (sym first) ∙ e in
          record { answer = rw (sound, holds); served = S }
