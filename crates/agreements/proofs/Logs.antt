-- A log that is translated, and a log followed live.
use Prim.Native.Nat.{ℕ, zero, suc, ◌<◌}
use mathlib.Core.Path.{◌≡◌, refl, ◌∙◌}
use mathlib.Core.List.{List}
use native.Mathlib.Omega.{arith}
use lib.ListN.{length}
use Rattle.std.specs.Prelude.{Result, Ok}
use Rattle.std.specs.Result.{result_and}
use Rattle.refusals.specs.declared.Refusal.{Refusal}
use Rattle.refusals.specs.Rows.{Check, number_of, refusal_at}
use Rattle.refusals.proofs.Rows.{number-above}
use Rattle.theory.specs.Rule.{Rule}
use Rattle.table_lent.specs.Lent.{Lent}
use Rattle.event_spec.specs.Events.{event_count, letters_of}
use Rattle.event_spec.specs.Translation.{translation_rows, translate_rows, translate_row, translated_of, filled, letters_after_lem}
use Rattle.live_spec.specs.declared.LiveCall.{LiveCall}
use Rattle.live_spec.specs.declared.LiveCounts.{LiveCounts}
use Rattle.live_spec.specs.History.{History, later, Served}
use Rattle.live_spec.specs.Rows as live
use Rattle.live_spec.specs.Called.{answer_by, left_by_lem, CalledBy, Gets, Leaves, LiveCalled}
use Rattle.agreements.proofs.Verdicts.{refusal_by, by_row, SameVerdicts, same-verdicts}

module _ (table log old new : List ℕ) (v : Result ℕ Refusal) where
  abbrev Translates : List ℕ → Type 0
  Translates f = (v ≡ translated_of f table log (length old)) × (new ≡ letters_after_lem f table log old)

  abbrev translate_rest : Rule → List Check
  translate_rest r = translation_rows r.s table log (length old)

  abbrev TranslatesBy : ℕ → Rule → Type 0
  TranslatesBy k r = (v ≡ result_and (refusal_by k) (Ok (event_count log))) × (new ≡ filled k (letters_of table log) old)

  pub translate-same : SameVerdicts Translates translate_rest TranslatesBy
  unfolding translated_of letters_after_lem translate_row
  translate-same =
      same-verdicts
      (λ k r t h. h)
      (λ f. let b = by_row (translate_rows f table log (length old)) in (λ h. (rw b at h.0, h.1), λ h. (rw b h.0, h.1)))

-- a refusal leaves a slice as lent
refused-left : (k : ℕ) → 0 < k → (x y old : List ℕ) → left_by_lem k x old ≡ left_by_lem k y old
unfolding left_by_lem
refused-left zero n x y old = absurd (omega arith)
refused-left (suc k) n x y old = refl

module _ (c : LiveCall) (codes transitions : Lent) (state set state' set' : List ℕ) (v : Result LiveCounts Refusal) where
  abbrev live_rest : Rule → List Check
  live_rest r = live.live_call_rows c r.s codes transitions state (length set)

  abbrev LiveBy : ℕ → Rule → Type 0
  LiveBy k r =
      CalledBy (refusal_by k) c r.initial codes.numbers transitions.numbers state set state' set' v
      × (k ≡ 0 → (h : History) → Served r.s h → Gets c r.initial codes.numbers transitions.numbers h state
      → Leaves r codes.numbers transitions.numbers (later h c) state set state' set' v)

  pub live_same : SameVerdicts (λ f. LiveCalled c f codes transitions state set state' set' v) live_rest LiveBy
  unfolding live.live_row answer_by
  live_same =
      same-verdicts
      (λ k r t h. let n = number-above (refusal_at k) in (
        record {
          answered = h.0.answered;
          state_left = h.0.state_left ∙ refused-left (number_of (refusal_at k)) n _ _ state;
          set_left = h.0.set_left ∙ refused-left (number_of (refusal_at k)) n _ _ set;
        },
        λ e. absurd (omega arith),
      ))
      (λ f. let b = by_row (live.live_rows c f codes transitions state (length set)) in (λ L. (rw b at L.called, L.goes_on), λ h. record { called = rw b h.0; goes_on = h.1 }))
