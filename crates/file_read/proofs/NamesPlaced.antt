-- The names of a preface stand right before its last two bytes.
use Prim.Native.Nat.{ℕ, ◌+◌, ◌-◌, ◌*◌, ◌<◌, ◌≤◌}
use mathlib.Core.Path.{◌≡◌, ap, sym, ◌∙◌}
use mathlib.Core.Bool.{false}
use mathlib.Core.List.{List, ◌++◌}
use native.Mathlib.Omega.{arith}
use lib.ListN.{length, take, drop, length-drop, take-append-drop}
use lib.Seq.{length-take-le, take-append-le, drop-append-le}
use Rattle.sets.proofs.Bools.{bif}
use Rattle.file_spec.specs.Names.{has_names_lem, names_before}
use Rattle.file_spec.proofs.Names.{cut_off_lem, no_names, names-there, names-room, names-long, names-length}

module _ (s : ℕ) (p : List ℕ) (fit : cut_off_lem s p ≡ false) where
  -- names leave room for the two bytes
  names-within : 0 < length (names_before s p) → length (names_before s p) + 2 ≤ length p
  names-within some =
      bif (has_names_lem p)
      (λ h. omega (arith, names-length s p h fit, names-room s p h fit, names-long s p h))
      (λ h. absurd (omega (arith, ap length (no_names s p h))))

  -- their bytes, in whatever begins with the preface
  names-bytes : (q : List ℕ) → take (length (names_before s p)) (drop (length p - 2 - length (names_before s p)) (p ++ q)) ≡ names_before s p
  names-bytes q =
      bif (has_names_lem p)
      (λ h.
      let k = length p - 2 - 8 * s in
      let room = names-room s p h fit in
      let long = names-long s p h in
      ap (λ (n : ℕ). take n (drop (length p - 2 - n) (p ++ q))) (names-length s p h fit)
      ∙ ap (take (8 * s)) (drop-append-le k p q (omega arith)) ∙ take-append-le (8 * s) (drop k p) q (omega (arith, length-drop k p))
      ∙ sym (names-there s p h))
      (λ h. rw (no_names s p h))

-- where the clauses of a file begin at `at`
module _ (s : ℕ) (f : List ℕ) (at : ℕ) (inside : at ≤ length f) (fit : cut_off_lem s (take at f) ≡ false) where
  pub names-room-at : 0 < length (names_before s (take at f)) → length (names_before s (take at f)) + 2 ≤ at
  names-room-at some = omega (arith, names-within s (take at f) fit some, length-take-le at f inside)

  pub names_at : take (length (names_before s (take at f))) (drop (at - 2 - length (names_before s (take at f))) f) ≡ names_before s (take at f)
  names_at =
      let n = length (names_before s (take at f)) in
      ap (λ (l : List ℕ). take n (drop (at - 2 - n) l)) (sym (take-append-drop at f))
      ∙ ap (λ (k : ℕ). take n (drop (k - 2 - n) (take at f ++ drop at f))) (sym (length-take-le at f inside))
      ∙ names-bytes s (take at f) fit (drop at f)
