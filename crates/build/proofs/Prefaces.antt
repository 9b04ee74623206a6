-- A preface whose names are not refused has no effect on what the build answers and leaves, and the reader of 01 leads to the same.
use Prim.Native.Nat.{ℕ}
use mathlib.Core.Path.{◌≡◌, refl}
use mathlib.Core.List.{List, ◌++◌}
use lib.ListN.{length}
use Rattle.refusals.specs.Rows.{first_row}
use Rattle.theory.specs.TableComputed.{macrostates, transitions}
use Rattle.file_spec.specs.File.{rule_in}
use Rattle.file_spec.specs.Rows.{preface_row_lem, file_row, old_rows}
use Rattle.file_read.proofs.Prefaces.{answer-after, old-answer}
use Rattle.build.specs.Built.{room_rows, built_by, room_after, slice_after, row_from, built_from, codes_after_from, transitions_after_from, built_of, codes_after_lem, transitions_after_lem}

module _ (p f : List ℕ) (n₁ : file_row f ≡ 1 → ⊥) (n₇ : file_row f ≡ 7 → ⊥) (u : preface_row_lem f ≡ 0) (v : preface_row_lem (p ++ f) ≡ 0) where
  pub built-after : (codesLen movesLen : ℕ) → built_of (p ++ f) codesLen movesLen ≡ built_of f codesLen movesLen
  unfolding built_from row_from built_by
  built-after codesLen movesLen = answer-after (λ r. room_rows (macrostates r) (transitions r) codesLen movesLen) (λ k r. built_by k (macrostates r) (transitions r)) (λ k r t. refl) p f n₁ n₇ u v

  pub codes_after : (xs : List ℕ) (movesLen : ℕ) → codes_after_lem (p ++ f) xs movesLen ≡ codes_after_lem f xs movesLen
  unfolding codes_after_from row_from room_after
  codes_after xs movesLen = answer-after (λ r. room_rows (macrostates r) (transitions r) (length xs) movesLen) (λ k r. slice_after k (macrostates r) xs) (λ k r t. refl) p f n₁ n₇ u v

  pub transitions_after : (codesLen : ℕ) (zs : List ℕ) → transitions_after_lem (p ++ f) codesLen zs ≡ transitions_after_lem f codesLen zs
  unfolding transitions_after_from row_from room_after
  transitions_after codesLen zs = answer-after (λ r. room_rows (macrostates r) (transitions r) codesLen (length zs)) (λ k r. slice_after k (transitions r) zs) (λ k r t. refl) p f n₁ n₇ u v

-- 02: "On a file that the new readers accept, both must reach equal verdicts."
module _ (f : List ℕ) (e : file_row f ≡ 0) where
  -- the first row that refuses, by the reader of 01
  abbrev pub old_build_row : ℕ → ℕ → ℕ
  old_build_row codesLen movesLen = first_row (old_rows f ++ room_rows (macrostates (rule_in f)) (transitions (rule_in f)) codesLen movesLen)

  pub old-built : (codesLen movesLen : ℕ) → built_by (old_build_row codesLen movesLen) (macrostates (rule_in f)) (transitions (rule_in f)) ≡ built_of f codesLen movesLen
  unfolding built_from row_from
  old-built codesLen movesLen = old-answer (λ r. room_rows (macrostates r) (transitions r) codesLen movesLen) (λ k r. built_by k (macrostates r) (transitions r)) f e

  pub old-codes : (xs : List ℕ) (movesLen : ℕ) → slice_after (old_build_row (length xs) movesLen) (macrostates (rule_in f)) xs ≡ codes_after_lem f xs movesLen
  unfolding codes_after_from row_from
  old-codes xs movesLen = old-answer (λ r. room_rows (macrostates r) (transitions r) (length xs) movesLen) (λ k r. slice_after k (macrostates r) xs) f e

  pub old-transitions : (codesLen : ℕ) (zs : List ℕ) → slice_after (old_build_row codesLen (length zs)) (transitions (rule_in f)) zs ≡ transitions_after_lem f codesLen zs
  unfolding transitions_after_from row_from
  old-transitions codesLen zs = old-answer (λ r. room_rows (macrostates r) (transitions r) codesLen (length zs)) (λ k r. slice_after k (transitions r) zs) f e
