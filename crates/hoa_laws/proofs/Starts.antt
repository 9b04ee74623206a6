-- The start lines tell which numbers are initial, and where they end.
use mathlib.Core.Path.{◌≡◌, refl, sym, ◌∙◌, ap}
use mathlib.Core.Bool.{true, false}
use mathlib.Core.List.{List, [], ◌∷◌, ◌++◌, append_assoc, append_cancel_left}
use Prim.Native.Nat.{ℕ, zero, suc, ◌+◌, ◌<◌}
use native.Mathlib.Omega.{arith}
use native.Mathlib.Numerals.{add-one}
use lib.ListN.{length, get_or, drop}
use lib.Seq.{drop-cons}
use Rattle.sets.specs.Masks.{bit}
use Rattle.sets.proofs.Bools.{bif}
use Rattle.listing_lines_spec.specs.Lines.{lines}
use Rattle.hoa_spec.specs.Lines.{start_line}
use Rattle.hoa_spec.specs.Text.{start_of}
use Rattle.hoa_laws.specs.Took.{NoStart, SameBits}
use Rattle.hoa_laws.proofs.Lines.{start-once}

pub start-yes : (i f : ℕ) → bit f 0 ≡ true → start_of i f ≡ start_line i
unfolding start_of
start-yes i f e = rw e

pub start-no : (i f : ℕ) → bit f 0 ≡ false → start_of i f ≡ []
unfolding start_of
start-no i f e = rw e

module _ (i f : ℕ) (fs rest : List ℕ) where
  pub starts-yes : bit f 0 ≡ true → lines start_of i (f ∷ fs) ++ rest ≡ start_line i ++ (lines start_of (suc i) fs ++ rest)
  unfolding lines
  starts-yes e = append_assoc (start_of i f) (lines start_of (suc i) fs) rest ∙ ap (λ (s : List ℕ). s ++ (lines start_of (suc i) fs ++ rest)) (start-yes i f e)

  pub starts-no : bit f 0 ≡ false → lines start_of i (f ∷ fs) ++ rest ≡ lines start_of (suc i) fs ++ rest
  unfolding lines
  starts-no e = append_assoc (start_of i f) (lines start_of (suc i) fs) rest ∙ ap (λ (s : List ℕ). s ++ (lines start_of (suc i) fs ++ rest)) (start-no i f e)

start-head : (i : ℕ) (more : List ℕ) → (others : List ℕ) × (start_line i ++ more ≡ 83 ∷ others)
unfolding start_line
start-head i more = (_, refl)

-- no start line of a lower number comes later
pub starts-later : (i j : ℕ) (fs rest more : List ℕ) → i < j → NoStart rest → lines start_of j fs ++ rest ≡ start_line i ++ more → ⊥
unfolding lines
starts-later i j [] rest more l n e = let h = start-head i more in n h.0 (e ∙ h.1)
starts-later i j (f ∷ fs) rest more l n e =
    bif (bit f 0)
    (λ t. let r = start-once j i (sym (starts-yes j f fs rest t) ∙ e) in omega (arith, r.0))
    (λ t. starts-later i (suc j) fs rest more (omega arith) n (sym (starts-no j f fs rest t) ∙ e))

pub same-cons : (q x y : ℕ) (xs ys : List ℕ) → bit x q ≡ bit y q → SameBits q xs ys → SameBits q (x ∷ xs) (y ∷ ys)
same-cons q x y xs ys e h zero = e
same-cons q x y xs ys e h (suc i) = h i

pub starts-once : (i : ℕ) (fs gs : List ℕ) (rest rest' : List ℕ) → length fs ≡ length gs → NoStart rest → NoStart rest'
    → lines start_of i fs ++ rest ≡ lines start_of i gs ++ rest' → SameBits 0 fs gs × (rest ≡ rest')
unfolding lines
starts-once i [] [] rest rest' h n n' e = (λ k. refl, e)
starts-once i [] (g ∷ gs) rest rest' h n n' e = absurd (omega arith)
starts-once i (f ∷ fs) [] rest rest' h n n' e = absurd (omega arith)
starts-once i (f ∷ fs) (g ∷ gs) rest rest' h n n' e =
    bif (bit f 0)
    (λ t. bif (bit g 0)
    (λ u. let r = starts-once (suc i) fs gs rest rest' (omega arith) n n' (append_cancel_left (start_line i) _ _ (sym (starts-yes i f fs rest t) ∙ e ∙ starts-yes i g gs rest' u)) in
    (same-cons 0 f g fs gs (t ∙ sym u) r.0, r.1))
    (λ u. absurd (starts-later i (suc i) gs rest' (lines start_of (suc i) fs ++ rest) (omega arith) n' (sym (starts-no i g gs rest' u) ∙ sym e ∙ starts-yes i f fs rest t))))
    (λ t. bif (bit g 0)
    (λ u. absurd (starts-later i (suc i) fs rest (lines start_of (suc i) gs ++ rest') (omega arith) n (sym (starts-no i f fs rest t) ∙ e ∙ starts-yes i g gs rest' u)))
    (λ u. let r = starts-once (suc i) fs gs rest rest' (omega arith) n n' (sym (starts-no i f fs rest t) ∙ e ∙ starts-no i g gs rest' u) in
    (same-cons 0 f g fs gs (t ∙ sym u) r.0, r.1)))

-- ---- one number after the other

module _ (s : List ℕ) (fs rest : List ℕ) (n : NoStart rest) (i : ℕ) (h : i < length fs) (e : s ≡ lines start_of i (drop i fs) ++ rest) where
  here : s ≡ lines start_of i (get_or fs i 0 ∷ drop (suc i) fs) ++ rest
  here = e ∙ ap (λ (gs : List ℕ). lines start_of i gs ++ rest) (drop-cons fs i 0 h)

  -- its start line stands there
  pub start-taken : (more : List ℕ) → s ≡ start_line i ++ more → (bit (get_or fs i 0) 0 ≡ true) × (more ≡ lines start_of (i + 1) (drop (i + 1) fs) ++ rest)
  start-taken more f =
      bif (bit (get_or fs i 0) 0)
      (λ t. (t, rw (add-one i) (append_cancel_left (start_line i) _ _ (sym f ∙ here ∙ starts-yes i (get_or fs i 0) (drop (suc i) fs) rest t))))
      (λ t. absurd (starts-later i (suc i) (drop (suc i) fs) rest more (omega arith) n (sym (starts-no i (get_or fs i 0) (drop (suc i) fs) rest t) ∙ sym here ∙ f)))

  -- it does not
  pub start-missing : ((more : List ℕ) → s ≡ start_line i ++ more → ⊥) → (bit (get_or fs i 0) 0 ≡ false) × (s ≡ lines start_of (i + 1) (drop (i + 1) fs) ++ rest)
  start-missing f =
      bif (bit (get_or fs i 0) 0)
      (λ t. absurd (f _ (here ∙ starts-yes i (get_or fs i 0) (drop (suc i) fs) rest t)))
      (λ t. (t, rw (add-one i) (here ∙ starts-no i (get_or fs i 0) (drop (suc i) fs) rest t)))
