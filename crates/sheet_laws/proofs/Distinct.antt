-- The cycles that are counted: the tidy cycles of the words that are not faulty, each once.
use mathlib.Core.Path.{◌≡◌, refl, sym, ◌∙◌, ap}
use mathlib.Core.Logic.{◌↔◌, ◌⊎◌, inl, inr, ⊎_elim, by_cases}
use mathlib.Core.Bool.{true, false, false≢true}
use mathlib.Core.List.{List, [], ◌∷◌, ◌++◌, Memᴰ}
use Prim.Native.Nat.{ℕ, zero, suc, ◌+◌, ◌<◌}
use native.Mathlib.Omega.{arith}
use native.Mathlib.Decide.{dec_lt}
use lib.ListN.{length, get_or, length-append, get_or-append}
use lib.Seq.{get_or-append_seam}
use Rattle.sets.proofs.Bools.{bif}
use Rattle.slice_search.specs.Same.{same_lists}
use Rattle.slice_search.proofs.Same.{lists-equal, lists-iff}
use Rattle.sheet_spec.specs.Words.{SheetWord, fault_of}
use Rattle.sheet_spec.specs.Computed.{is_known, learn, cycles_after, tidy_of_lem, Counted}
use Rattle.sheet_spec.specs.Judged.{Once}

pub known-yes : (c k : List ℕ) (ks : List (List ℕ)) → same_lists k c ≡ true → is_known c (k ∷ ks) ≡ true
unfolding is_known
known-yes c k ks e = rw (e, is_known)

pub known-no : (c k : List ℕ) (ks : List (List ℕ)) → same_lists k c ≡ false → is_known c (k ∷ ks) ≡ is_known c ks
unfolding is_known
known-no c k ks e = rw (e, is_known)

-- a cycle is known exactly if it is in the list
pub known-iff : (c : List ℕ) (ks : List (List ℕ)) → (is_known c ks ≡ true) ↔ Memᴰ c ks
unfolding is_known
known-iff c [] = (λ e. absurd (false≢true e), λ m. absurd (mathlib.Core.List.Memᴰ.not-nil m))
known-iff c (k ∷ ks) =
    let ih = known-iff c ks in
    bif (same_lists k c)
    (λ e. (λ t. mathlib.Core.List.Memᴰ.head (sym (lists-equal k c e)), λ m. known-yes c k ks e))
    (λ e. (
      λ t. mathlib.Core.List.Memᴰ.tail (ih.0 (sym (known-no c k ks e) ∙ t)),
      λ m. known-no c k ks e ∙ ⊎_elim (λ p. absurd (false≢true (sym e ∙ (lists-iff k c).1 (sym p)))) ih.1 (mathlib.Core.List.Memᴰ.cases_cons m),
    ))

pub learn-known : (ks : List (List ℕ)) (c : List ℕ) → is_known c ks ≡ true → learn ks c ≡ ks
unfolding learn
learn-known ks c e = rw (e, learn)

pub learn-new : (ks : List (List ℕ)) (c : List ℕ) → is_known c ks ≡ false → learn ks c ≡ ks ++ (c ∷ [])
unfolding learn
learn-new ks c e = rw (e, learn)

pub mem-of : {A : Type 0} (xs : List A) (i : ℕ) (d : A) → i < length xs → Memᴰ (get_or xs i d) xs
mem-of [] i d l = absurd (omega arith)
mem-of (x ∷ xs) zero d l = mathlib.Core.List.Memᴰ.head refl
mem-of (x ∷ xs) (suc i) d l = mathlib.Core.List.Memᴰ.tail (mem-of xs i d (omega arith))

once-learn : (ks : List (List ℕ)) (c : List ℕ) → Once ks → Once (learn ks c)
once-learn ks c o =
    bif (is_known c ks)
    (λ e. rw (learn-known ks c e) o)
    (λ e. rw (learn-new ks c e) (λ i j h l q.
    let long : length (ks ++ (c ∷ [])) ≡ length ks + 1 = length-append ks (c ∷ []) in
    let first = get_or-append ks (c ∷ []) [] i (omega arith) in
    by_cases (dec_lt j (length ks))
    (λ k. o i j h k (sym first ∙ q ∙ get_or-append ks (c ∷ []) [] j k))
    (λ k. let f : j ≡ length ks = omega arith in
    let last : get_or (ks ++ (c ∷ [])) j [] ≡ c = ap (λ (x : ℕ). get_or (ks ++ (c ∷ [])) x []) f ∙ get_or-append_seam ks c [] [] in
    let m : Memᴰ c ks = mathlib.Core.List.Memᴰ.cast (sym (sym first ∙ q ∙ last)) (mem-of ks i [] (omega arith)) in
    false≢true (sym e ∙ (known-iff c ks).1 m))))

mem-learn : (ks : List (List ℕ)) (c x : List ℕ) → Memᴰ x (learn ks c) ↔ (Memᴰ x ks ⊎ (x ≡ c))
mem-learn ks c x =
    bif (is_known c ks)
    (λ e. rw (learn-known ks c e) (λ m. inl m, ⊎_elim (λ m. m) (λ p. mathlib.Core.List.Memᴰ.cast p ((known-iff c ks).0 e))))
    (λ e. rw (learn-new ks c e) (
      λ m. ⊎_elim inl (λ n. inr (mathlib.Core.List.Memᴰ.eq_of_singleton n)) (mathlib.Core.List.Memᴰ.append_cases ks m),
      ⊎_elim (mathlib.Core.List.Memᴰ.append_left (c ∷ [])) (λ p. mathlib.Core.List.Memᴰ.append_right ks (mathlib.Core.List.Memᴰ.head p)),
    ))

pub zero-or-suc : (n : ℕ) → (n ≡ 0) ⊎ ((k : ℕ) × (n ≡ suc k))
zero-or-suc zero = inl refl
zero-or-suc (suc k) = inr (k, refl)

module _ (s : ℕ) where
  pub after-served : (ks : List (List ℕ)) (w : SheetWord) (ws : List SheetWord) → fault_of s w ≡ 0 → cycles_after s ks (w ∷ ws) ≡ cycles_after s (learn ks (tidy_of_lem w)) ws
  unfolding cycles_after
  after-served ks w ws e = rw e

  pub after-faulty : (ks : List (List ℕ)) (w : SheetWord) (ws : List SheetWord) (k : ℕ) → fault_of s w ≡ suc k → cycles_after s ks (w ∷ ws) ≡ cycles_after s ks ws
  unfolding cycles_after
  after-faulty ks w ws k e = rw e

  counted-more : (known : List (List ℕ)) (w : SheetWord) (ws : List SheetWord) (ks : List (List ℕ)) → fault_of s w ≡ 0 → Counted s (learn known (tidy_of_lem w)) ws ks → Counted s known (w ∷ ws) ks
  counted-more known w ws ks e C = record {
    once = C.once;
    old = λ c m. C.old c ((mem-learn known (tidy_of_lem w) c).1 (inl m));
    all = λ v m f. ⊎_elim
        (λ p. C.old (tidy_of_lem v) ((mem-learn known (tidy_of_lem w) (tidy_of_lem v)).1 (inr (ap tidy_of_lem p))))
        (λ n. C.all v n f) (mathlib.Core.List.Memᴰ.cases_cons m);
    only = λ c m. ⊎_elim
        (λ n. ⊎_elim inl (λ p. inr (w, mathlib.Core.List.Memᴰ.head refl, e, p)) ((mem-learn known (tidy_of_lem w) c).0 n))
        (λ x. inr (x.0, mathlib.Core.List.Memᴰ.tail x.1, x.2, x.3)) (C.only c m);
  }

  counted-faulty : (known : List (List ℕ)) (w : SheetWord) (ws : List SheetWord) (ks : List (List ℕ)) (k : ℕ) → fault_of s w ≡ suc k → Counted s known ws ks → Counted s known (w ∷ ws) ks
  counted-faulty known w ws ks k e C = record {
    once = C.once;
    old = C.old;
    all = λ v m f. ⊎_elim
        (λ p. let x : suc k ≡ 0 = sym e ∙ ap (fault_of s) (sym p) ∙ f in absurd (omega arith))
        (λ n. C.all v n f) (mathlib.Core.List.Memᴰ.cases_cons m);
    only = λ c m. ⊎_elim inl (λ x. inr (x.0, mathlib.Core.List.Memᴰ.tail x.1, x.2, x.3)) (C.only c m);
  }

  after_none : (known : List (List ℕ)) → cycles_after s known [] ≡ known
  unfolding cycles_after
  after_none known = refl

  pub counted : (known : List (List ℕ)) (ws : List SheetWord) → Once known → Counted s known ws (cycles_after s known ws)
  counted known [] o = rw (after_none known) record { once = o; old = λ c m. m; all = λ w m f. absurd (mathlib.Core.List.Memᴰ.not-nil m); only = λ c m. inl m }
  counted known (w ∷ ws) o = ⊎_elim
      (λ e. rw (after-served known w ws e) (counted-more known w ws _ e (counted (learn known (tidy_of_lem w)) ws (once-learn known (tidy_of_lem w) o))))
      (λ e. rw (after-faulty known w ws e.0 e.1) (counted-faulty known w ws _ e.0 e.1 (counted known ws o)))
      (zero-or-suc (fault_of s w))
