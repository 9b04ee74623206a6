-- The trimmed build, the build of the words that a rule rejects, and the writer of a table's text.
use Prim.Native.Nat.{ℕ}
use mathlib.Core.Path.{◌≡◌}
use mathlib.Core.List.{List}
use lib.ListN.{length}
use Rattle.std.specs.Prelude.{Result, Ok}
use Rattle.std.specs.Result.{result_and}
use Rattle.refusals.specs.declared.Refusal.{Refusal}
use Rattle.refusals.specs.Rows.{Check}
use Rattle.theory.specs.Rule.{Rule}
use Rattle.theory.specs.TableComputed.{macrostates, transitions}
use Rattle.file_write_spec.specs.Written.{after}
use Rattle.table_lent.specs.Lent.{Lent}
use Rattle.trim_spec.specs.Trimmed.{trimmed_codes, trimmed_transitions}
use Rattle.rejecting_spec.specs.RejectingComputed.{rejecting_macrostates, rejecting_transitions}
use Rattle.build.specs.declared.Counts.{Counts}
use Rattle.build.specs.Built.{room_rows, built_by, room_after, slice_after, row_from, built_from, codes_after_from, transitions_after_from}
use Rattle.build_trimmed.specs.Answers.{trimmed_of, trimmed_codes_after, trimmed_transitions_after}
use Rattle.build_rejecting.specs.Answers.{rejecting_of, rejecting_codes_after, rejecting_transitions_after}
use Rattle.hoa_write.specs.Written as hoa
use Rattle.agreements.proofs.Verdicts.{refusal_by, by_row, SameVerdicts, same-verdicts}

-- the answer b and both slices of a build, by a row and the lists that are to be written
module _ (xs zs : List ℕ) (b : Result Counts Refusal) (ys ws : List ℕ) where
  abbrev BuiltBy : ℕ → List ℕ → List ℕ → Type 0
  BuiltBy k codes moves = (b ≡ built_by k codes moves) × (ys ≡ slice_after k codes xs) × (ws ≡ slice_after k moves zs)

  -- ---- the trimmed build

  abbrev Trimmed : List ℕ → Type 0
  Trimmed f = (b ≡ trimmed_of f (length xs) (length zs)) × (ys ≡ trimmed_codes_after f xs (length zs)) × (ws ≡ trimmed_transitions_after f (length xs) zs)

  abbrev trimmed_rest : Rule → List Check
  trimmed_rest r = room_rows (macrostates r) (transitions r) (length xs) (length zs)

  abbrev TrimmedBy : ℕ → Rule → Type 0
  TrimmedBy k r = BuiltBy k (trimmed_codes r) (trimmed_transitions r)

  pub trimmed-same : SameVerdicts Trimmed trimmed_rest TrimmedBy
  unfolding trimmed_of trimmed_codes_after trimmed_transitions_after row_from built_by room_after
  trimmed-same = same-verdicts (λ k r t h. h) (λ f. (λ h. h, λ h. h))

  -- ---- the build of the words that a rule rejects

  abbrev Rejecting : List ℕ → Type 0
  Rejecting f = (b ≡ rejecting_of f (length xs) (length zs)) × (ys ≡ rejecting_codes_after f xs (length zs)) × (ws ≡ rejecting_transitions_after f (length xs) zs)

  abbrev rejecting_rest : Rule → List Check
  rejecting_rest r = room_rows (rejecting_macrostates r) (rejecting_transitions r) (length xs) (length zs)

  abbrev RejectingBy : ℕ → Rule → Type 0
  RejectingBy k r = BuiltBy k (rejecting_macrostates r) (rejecting_transitions r)

  pub rejecting-same : SameVerdicts Rejecting rejecting_rest RejectingBy
  unfolding built_from codes_after_from transitions_after_from row_from built_by room_after
  rejecting-same = same-verdicts (λ k r t h. h) (λ f. (λ h. h, λ h. h))

-- ---- the writer of a table's text

module _ (codes transitions : Lent) (old new : List ℕ) (v : Result ℕ Refusal) where
  abbrev Wrote : List ℕ → Type 0
  Wrote f = (v ≡ hoa.hoa_written f codes transitions (length old)) × (new ≡ hoa.hoa_after f codes transitions old)

  abbrev wrote_rest : Rule → List Check
  wrote_rest r = hoa.text_rows r.s r.initial codes transitions (length old)

  abbrev WroteBy : ℕ → Rule → Type 0
  WroteBy k r = (v ≡ result_and (refusal_by k) (Ok (length (hoa.lent_text r.s r.initial codes transitions)))) × (new ≡ after k (hoa.lent_text r.s r.initial codes transitions) old)

  pub wrote-same : SameVerdicts Wrote wrote_rest WroteBy
  unfolding hoa.hoa_written hoa.hoa_after hoa.write_row after
  wrote-same =
      same-verdicts
      (λ k r t h. h)
      (λ f. let b = by_row (hoa.write_rows f codes transitions (length old)) in (λ h. (rw b at h.0, h.1), λ h. (rw b h.0, h.1)))
