-- The lengths of lines, added up one by one.
use mathlib.Core.Path.{◌≡◌, ◌∙◌, ap}
use mathlib.Core.List.{List}
use Prim.Native.Nat.{ℕ, ◌+◌, ◌≤◌, ◌<◌}
use native.Mathlib.Omega.{arith}
use lib.ListN.{length, take, get_or, length-append}
use lib.Seq.{take_all}
use Rattle.listing_lines_spec.specs.Lines.{lines}
use Rattle.listing_lines_spec.proofs.Lines.{lines_next}

module _ (line : ℕ → ℕ → List ℕ) (xs : List ℕ) where
  -- none
  pub sum-none : 0 ≡ length (lines line 0 (take 0 xs))
  unfolding lines
  sum-none = omega arith

  -- one more
  pub sum-next : (i total : ℕ) (text : List ℕ) → i < length xs → total ≡ length (lines line 0 (take i xs)) → text ≡ line i (get_or xs i 0)
      → total + length text ≡ length (lines line 0 (take (i + 1) xs))
  sum-next i total text h e is =
      omega (arith, e, ap length is, ap length (lines_next line xs i h), length-append (lines line 0 (take i xs)) (line i (get_or xs i 0)))

  -- all
  pub sum-all : (i total : ℕ) → length xs ≤ i → total ≡ length (lines line 0 (take i xs)) → total ≡ length (lines line 0 xs)
  sum-all i total h e = e ∙ ap (λ (s : List ℕ). length (lines line 0 s)) (take_all i xs h)
