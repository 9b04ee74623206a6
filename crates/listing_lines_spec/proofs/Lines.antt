-- Lines written one after the other.
use mathlib.Core.Path.{◌≡◌, sym, ◌∙◌, ap}
use mathlib.Core.List.{List, [], ◌∷◌, ◌++◌, append_assoc, append-nil}
use Prim.Native.Nat.{ℕ, suc, ◌+◌, ◌*◌, ◌≤◌, ◌<◌}
use native.Mathlib.Omega.{arith}
use native.Mathlib.Numerals.{add-one}
use native.Mathlib.Nat.{add-zero, zero-add, mul-suc}
use lib.ListN.{length, take, drop, get_or, length-append, take-append-drop}
use lib.Seq.{length-take-le, take_all, take-suc}
use Rattle.listing_lines_spec.specs.Lines.{lines}
use Rattle.slice_text.specs.Put.{Put}
use Rattle.slice_text.proofs.Puts.{put_as, put-none, put_then, put-length}

module _ (line : ℕ → ℕ → List ℕ) where
  lines-append : (i : ℕ) (xs ys : List ℕ) → lines line i (xs ++ ys) ≡ lines line i xs ++ lines line (i + length xs) ys
  unfolding lines
  lines-append i [] ys = rw (add-zero i)
  lines-append i (x ∷ xs) ys = let e : suc i + length xs ≡ i + suc (length xs) = omega arith in
      ap (λ (t : List ℕ). line i x ++ t) (lines-append (suc i) xs ys ∙ ap (λ (k : ℕ). lines line (suc i) xs ++ lines line k ys) e)
      ∙ sym (append_assoc (line i x) (lines line (suc i) xs) (lines line (i + suc (length xs)) ys))

  line-alone : (i x : ℕ) → lines line i (x ∷ []) ≡ line i x
  unfolding lines
  line-alone i x = append-nil (line i x)

  -- no line is longer than b
  pub lines-length : (b i : ℕ) (xs : List ℕ) → ((j : ℕ) → j < length xs → length (line (i + j) (get_or xs j 0)) ≤ b) → length (lines line i xs) ≤ b * length xs
  unfolding lines
  lines-length b i [] h = omega arith
  lines-length b i (x ∷ xs) h =
      let first : length (line i x) ≤ b = rw (add-zero i) at (h 0 (omega arith)) in
      let rest = lines-length b (suc i) xs (λ j l. let e : suc i + j ≡ i + suc j = omega arith in rw e (h (suc j) (omega arith))) in
      omega (arith, length-append (line i x) (lines line (suc i) xs), mul-suc b (length xs))

  module _ (xs : List ℕ) (i : ℕ) (h : i < length xs) where
    -- one line more
    pub lines_next : lines line 0 (take (i + 1) xs) ≡ lines line 0 (take i xs) ++ line i (get_or xs i 0)
    lines_next = ap (λ (k : ℕ). lines line 0 (take k xs)) (add-one i)
        ∙ ap (lines line 0) (take-suc xs i 0 h)
        ∙ lines-append 0 (take i xs) (get_or xs i 0 ∷ [])
        ∙ ap (λ (k : ℕ). lines line 0 (take i xs) ++ lines line k (get_or xs i 0 ∷ [])) (zero-add (length (take i xs)) ∙ length-take-le i xs (omega arith))
        ∙ ap (λ (t : List ℕ). lines line 0 (take i xs) ++ t) (line-alone i (get_or xs i 0))

    lines-part : lines line 0 xs ≡ lines line 0 (take (i + 1) xs) ++ lines line (0 + length (take (i + 1) xs)) (drop (i + 1) xs)
    lines-part = ap (lines line 0) (sym (take-append-drop (i + 1) xs)) ∙ lines-append 0 (take (i + 1) xs) (drop (i + 1) xs)

    module _ {d : List ℕ} {at : ℕ} {d₁ : List ℕ} {e : ℕ} (P : Put d at (lines line 0 (take i xs)) d₁ e) (text : List ℕ) (is : text ≡ line i (get_or xs i 0)) where
      -- there is room for the next line
      pub room-line : at + length (lines line 0 xs) ≤ length d → e + length text ≤ length d₁
      room-line room = omega (
        arith,
        P.ends,
        put-length P,
        ap length is,
        ap length lines_next,
        ap length lines-part,
        length-append (lines line 0 (take i xs)) (line i (get_or xs i 0)),
        length-append (lines line 0 (take (i + 1) xs)) (lines line (0 + length (take (i + 1) xs)) (drop (i + 1) xs)),
      )

      -- the next line
      pub put-line : {d₂ : List ℕ} {r : ℕ} → Put d₁ e text d₂ r → Put d at (lines line 0 (take (i + 1) xs)) d₂ r
      put-line Q = put_as (lines_next ∙ ap (λ (t : List ℕ). lines line 0 (take i xs) ++ t) (sym is)) (put_then P Q)

  -- before the first line
  pub put-no-lines : (xs d : List ℕ) (at : ℕ) → at + length (lines line 0 xs) ≤ length d → Put d at (lines line 0 (take 0 xs)) d at
  unfolding lines
  put-no-lines xs d at h = put-none d at (omega arith)

  -- after the last line
  pub put-lines : {d : List ℕ} {at : ℕ} {d₁ : List ℕ} {e : ℕ} (xs : List ℕ) (i : ℕ) → length xs ≤ i → Put d at (lines line 0 (take i xs)) d₁ e → Put d at (lines line 0 xs) d₁ e
  put-lines xs i h P = put_as (ap (lines line 0) (sym (take_all i xs h))) P
