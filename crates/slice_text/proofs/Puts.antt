-- Texts written one after the other.
use mathlib.Core.Path.{◌≡◌, refl, sym, ◌∙◌, ap, ap₂}
use mathlib.Core.List.{List, [], ◌∷◌, ◌++◌, append_assoc, append-nil}
use Prim.Native.Nat.{ℕ, ◌+◌, ◌≤◌, ◌<◌}
use native.Mathlib.Omega.{arith}
use native.Mathlib.Numerals.{add-one}
use native.Mathlib.Nat.{add-zero, zero-add}
use lib.ListN.{length, take, drop, set, length-append, length-drop, take-append-drop}
use lib.Seq.{paste, length-take-le, take-length, take_at, drop-append-add, drop-drop, set_split, append_snoc}
use Rattle.slice_text.specs.Put.{Put}

-- the front of the slice up to the end of the text
front_length : (d : List ℕ) (at : ℕ) (s : List ℕ) → at ≤ length d → length (take at d ++ s) ≡ at + length s
front_length d at s h = length-append (take at d) s ∙ ap (λ (k : ℕ). k + length s) (length-take-le at d h)

module _ {d : List ℕ} {at : ℕ} {s d₁ : List ℕ} {e : ℕ} (P : Put d at s d₁ e) where
  starts : at ≤ length d
  starts = omega (arith, P.ends, P.fits)

  front : length (take at d ++ s) ≡ e
  front = front_length d at s starts ∙ sym P.ends

  -- the slice keeps its length
  pub put-length : length d₁ ≡ length d
  put-length = ap length P.text ∙ length-append (take at d ++ s) (drop e d) ∙ omega (arith, front, length-drop e d, P.fits)

  -- a text, and another where it ends
  pub put_then : {t d₂ : List ℕ} {f : ℕ} → Put d₁ e t d₂ f → Put d at (s ++ t) d₂ f
  put_then {t} {d₂} {f} Q =
      let n = length-append s t in
      let a : take e d₁ ≡ take at d ++ s = ap (take e) P.text ∙ take_at (take at d ++ s) (drop e d) e front in
      let b : drop f d₁ ≡ drop f d =
      ap (drop f) P.text
      ∙ ap (λ (k : ℕ). drop k ((take at d ++ s) ++ drop e d)) (Q.ends ∙ ap (λ (k : ℕ). k + length t) (sym front))
      ∙ drop-append-add (take at d ++ s) (drop e d) (length t)
      ∙ drop-drop (length t) e d
      ∙ ap (λ (k : ℕ). drop k d) (sym Q.ends) in
      record {
        ends = omega (arith, P.ends, Q.ends);
        fits = omega (arith, put-length, Q.fits);
        text = Q.text ∙ rw (a, b, append_assoc (take at d) s t);
      }

-- a text that is given in another way
pub put_as : {d : List ℕ} {at : ℕ} {s t d₁ : List ℕ} {e : ℕ} → t ≡ s → Put d at s d₁ e → Put d at t d₁ e
put_as q P = rw q P

-- one byte
pub put_one : (d : List ℕ) (at x : ℕ) → at < length d → Put d at (x ∷ []) (set d at x) (at + 1)
put_one d at x h = record {
  ends = refl;
  fits = omega arith;
  text = rw (append_snoc (take at d) x (drop (at + 1) d), add-one at) (set_split d at x h);
}

-- a copy
pub put_copy : (d : List ℕ) (at : ℕ) (s new : List ℕ) → at + length s ≤ length d → new ≡ paste d at s (length s) → Put d at s new (at + length s)
put_copy d at s new h e = record { ends = refl; fits = h; text = e ∙ ap (λ (t : List ℕ). (take at d ++ t) ++ drop (at + length s) d) (take-length s) }

-- the slice with the text, as a copy
pub put-paste : {d : List ℕ} {at : ℕ} {s new : List ℕ} {r : ℕ} → Put d at s new r → new ≡ paste d at s (length s)
put-paste {d} {at} {s} P = P.text ∙ ap₂ (λ (t : List ℕ) (k : ℕ). (take at d ++ t) ++ drop k d) (sym (take-length s)) P.ends

-- nothing
pub put-none : (d : List ℕ) (at : ℕ) → at ≤ length d → Put d at [] d at
put-none d at h = record { ends = sym (add-zero at); fits = h; text = rw append-nil (sym (take-append-drop at d)) }

-- at the start of a slice
pub put_first : {d s new : List ℕ} {r : ℕ} → Put d 0 s new r → (r ≡ length s) × (new ≡ s ++ drop (length s) d)
put_first P = let e = P.ends ∙ zero-add _ in (e, P.text ∙ rw e)
