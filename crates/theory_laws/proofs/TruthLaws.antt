-- What a program needs that computes the masks: one height after another, and one letter more in front.
use mathlib.Core.Path.{◌≡◌, refl, sym, ◌∙◌, ap}
use mathlib.Core.Logic.{◌⊎◌, inl, inr, ⊎_elim, by_cases}
use mathlib.Core.Bool.{Bool, true, ◌&&◌, cond, false≢true}
use mathlib.Core.List.{List, ◌∷◌, Memᴰ}
use Prim.Native.Nat.{ℕ, zero, suc, ◌*◌, ◌<◌}
use native.Mathlib.Omega.{arith}
use native.Mathlib.Decide.{dec_lt}
use lib.Dec.{ltb}
use lib.ListN.{length, get_or}
use lib.Seq.{ext_get_or}
use borrow.Author.Tests.{lt-ltb, le-ltb}
use Rattle.sets.specs.Tests.{Set}
use Rattle.sets.specs.Masks.{bit, mask, exclusive}
use Rattle.sets.proofs.Bools.{iff}
use Rattle.sets.proofs.Bits.{bit-ext, mask-unique}
use Rattle.theory.specs.Rule.{Rule, entry, satisfies}
use Rattle.theory.specs.Passing.{Passing}
use Rattle.theory.specs.Automaton.{Automaton, automaton}
use Rattle.theory.specs.Layered.{Layered}
use Rattle.theory.specs.Core.{is_open, settled}
use Rattle.theory.specs.Word.{places, next_place_lem, letter_at_lem}
use Rattle.theory.specs.Truth.{height_of, truth_masks}
use Rattle.theory_laws.proofs.Certified.{discharged, Certified}
use Rattle.theory_laws.proofs.FixedPoint.{exact, near-open}
use Rattle.theory_laws.proofs.Places.{next-place-low, next-place-behind, next-place-first}
use Rattle.theory_laws.proofs.Pursuit.{open-kind, open_of, unique, discharged-settled}
use Rattle.theory_laws.proofs.Settled.{settled-in-ext, settled-ext, settled-mono, settled-all}
use Rattle.theory_laws.proofs.Satisfies.{open_in, meets-mono, meets-open, satisfies-ext}
use Rattle.theory_laws.proofs.Truth.{heights, height-is, truth, certain, truth-certain, truth-exact, truth-length, truth-lt}
use Rattle.theory_laws.proofs.Cores.{open-ext}

module _ (R : Automaton) (S T : Set) (q : ℕ) where
  open-back : is_open R S q ≡ is_open R T q → S q ≡ T q
  open-back e = open_of R (R.accepting q) (is_open R T q) S q refl e ∙ sym (open_of R (R.accepting q) (is_open R T q) T q refl refl)

-- ---- the states of one height, the lower ones known: M are the masks so far
module _ (r : Rule) (P : Passing r) (lead cycle : List ℕ) (repeats : 0 < length cycle) (M : ℕ → Set) (h : ℕ)
    (below : (p q : ℕ) → p < places lead cycle → q < r.n → height_of r q < h → M p q ≡ truth r P lead cycle repeats p q)
    (sound : (p q : ℕ) → p < places lead cycle → q < r.n → height_of r q ≡ h → is_open (automaton r) (M p) q ≡ true → is_open (automaton r) (truth r P lead cycle repeats p) q ≡ true) where
  abbrev A : Automaton
  A = automaton r

  abbrev L : ℕ
  L = places lead cycle

  abbrev next : ℕ → ℕ
  next = next_place_lem lead cycle

  abbrev letter : ℕ → ℕ
  letter = letter_at_lem lead cycle

  abbrev T : ℕ → Set
  T = truth r P lead cycle repeats

  -- the entries that the masks so far satisfy at the following place
  abbrev now : ℕ → Set
  now p q = satisfies r.n (M (next p)) (entry r q (letter p))

  -- a state of a clause is of q's component, or known
  lower : (p q : ℕ) → p < L → q < r.n → height_of r q ≡ h → (c x : ℕ) → Memᴰ c (entry r q (letter p)) → x < r.n → bit c x ≡ true
      → (((A.component x ≡ A.component q) × (height_of r x ≡ h)) ⊎ (M (next p) x ≡ T (next p) x))
  unfolding heights automaton
  lower p q l k e c x m i b =
      ⊎_elim
      (λ s. inl (s, height-is r x i ∙ (heights r P).level x q i k s ∙ sym (height-is r q k) ∙ e))
      (λ lt. inr (below (next p) x (next-place-low lead cycle repeats p l) i (let y = height-is r x i in let z = height-is r q k in omega arith)))
      ((heights r P).down q (letter p) c x k i m b)

  -- a state that its entry opens is open in truth
  pub sound-step : (p q : ℕ) → p < L → q < r.n → height_of r q ≡ h → is_open A (now p) q ≡ true → is_open A (T p) q ≡ true
  unfolding automaton
  sound-step p q l k e o =
      let f = A.accepting q in
      let es = entry r q (letter p) in
      open-kind A f (T p) q refl ∙ ap (exclusive f) (truth-exact r P lead cycle repeats p q l k) ∙ sym (meets-open f r.n (T (next p)) es)
      ∙ meets-mono f r.n (open_in f (M (next p))) (open_in f (T (next p))) es
      (λ c x m i b v. ⊎_elim
      (λ s. let a = (heights r P).pure x q i k s.0 in
      sym (open-kind A f (T (next p)) x a) ∙ sound (next p) x (next-place-low lead cycle repeats p l) i s.1 (open-kind A f (M (next p)) x a ∙ v))
      (λ u. ap (exclusive f) (sym u) ∙ v) (lower p q l k e c x m i b))
      (meets-open f r.n (M (next p)) es ∙ sym (open-kind A f (now p) q refl) ∙ o)

  -- once no entry opens a state that is not open, the masks so far are the truth
  module _ (done : (p q : ℕ) → p < L → q < r.n → height_of r q ≡ h → is_open A (now p) q ≡ true → is_open A (M p) q ≡ true) where
    complete : (d p q : ℕ) → p < L → q < r.n → height_of r q ≡ h → discharged A next letter (certain r P lead cycle repeats) p d q ≡ true → is_open A (M p) q ≡ true
    unfolding discharged automaton heights
    complete zero p q l k e t = absurd (false≢true t)
    complete (suc d) p q l k e t =
        let z = next-place-low lead cycle repeats p l in
        let S = M (next p) in
        let C = certain r P lead cycle repeats in
        let v : settled A (C (next p)) (is_open A S) q (entry r q (letter p)) ≡ true
        = settled-mono A (C (next p)) (discharged A next letter C (next p) d) (is_open A S) q _
        (λ x i s u. complete d (next p) x z i (height-is r x i ∙ (heights r P).level x q i k s ∙ sym (height-is r q k) ∙ e) u)
        (discharged-settled A next letter C p d q t) in
        let outer : (c x : ℕ) → Memᴰ c (entry r q (letter p)) → x < r.n → bit c x ≡ true → (A.component x ≡ A.component q → ⊥) → C (next p) x ≡ S x
        = λ c x m i b n. ⊎_elim (λ s. absurd (n s.0)) (λ u. sym (u ∙ truth-certain r P lead cycle repeats (next p) x z i)) (lower p q l k e c x m i b) in
        done p q l k e
        (open-kind A (A.accepting q) (now p) q refl
        ∙ sym (settled-in-ext A (C (next p)) S (is_open A S) (is_open A S) q _ (λ c x m i b s. refl) outer ∙ settled-all A (heights r P) S q k _) ∙ v)

    pub layer-truth : (p q : ℕ) → p < L → q < r.n → height_of r q ≡ h → M p q ≡ T p q
    unfolding automaton
    layer-truth p q l k e =
        let C = certain r P lead cycle repeats in
        let z = truth-certain r P lead cycle repeats p q l k in
        open-back A (M p) (T p) q (iff (is_open A (M p) q) (is_open A (T p) q) (sound p q l k e)
        (λ t. complete (L * r.n) p q l k e (near-open A (heights r P) L next letter (next-place-low lead cycle repeats) p q k (sym (open-ext A (T p) (C p) q z) ∙ t))))

-- ---- two certified families over one word are equal
module _ (R : Automaton) (L : ℕ) (nx w : ℕ → ℕ) where
  record Settles (S : ℕ → Set) : Type 0 where
    exact : (p q : ℕ) → p < L → q < R.n → S p q ≡ satisfies R.n (S (nx p)) (R.entry q (w p))
    near : (p q : ℕ) → p < L → q < R.n → is_open R (S p) q ≡ true → (d : ℕ) × (discharged R nx w S p d q ≡ true)

  -- places past the last are taken for the first
  clip : ℕ → ℕ
  clip p = cond (ltb p L) p 0

  clip-in : (p : ℕ) → p < L → clip p ≡ p
  unfolding clip
  clip-in p l = rw (lt-ltb p L l)

  clip-lt : 0 < L → (p : ℕ) → clip p < L
  unfolding clip
  clip-lt h p = by_cases (dec_lt p L) (λ l. rw (lt-ltb p L l) l) (λ l. rw (le-ltb p L (omega arith)) h)

  module _ (stay : (p : ℕ) → p < L → nx p < L) (some-place : 0 < L) where
    clipped : (S : ℕ → Set) (d p q : ℕ) → discharged R (λ i. nx (clip i)) (λ i. w (clip i)) (λ i. S (clip i)) p d q ≡ discharged R nx w S (clip p) d q
    unfolding discharged
    clipped S zero p q = refl
    clipped S (suc d) p q =
        let c = clip-in (nx (clip p)) (stay (clip p) (clip-lt some-place p)) in
        ap (λ (b : Bool). is_open R (S (clip p)) q && b)
        (settled-ext R (S (clip (nx (clip p)))) _ _ q _ (λ x m s. clipped S d (nx (clip p)) x ∙ ap (λ (i : ℕ). discharged R nx w S i d x) c)
        ∙ ap (λ (i : ℕ). settled R (S i) (discharged R nx w S (nx (clip p)) d) q (R.entry q (w (clip p)))) c)

    certify : (S : ℕ → Set) → Settles S → Certified R (λ i. nx (clip i)) (λ i. w (clip i)) (λ i. S (clip i))
    certify S s = record {
      exact = λ i q l. let k = clip-lt some-place i in
          s.exact (clip i) q k l ∙ ap (λ (j : ℕ). satisfies R.n (S j) (R.entry q (w (clip i)))) (sym (clip-in (nx (clip i)) (stay (clip i) k)));
      finite = λ i q l o. let f = s.near (clip i) q (clip-lt some-place i) l o in (f.0, clipped S f.0 i q ∙ f.1);
    }

    same-sets : Layered R → (S T : ℕ → Set) → Settles S → Settles T → (p q : ℕ) → p < L → q < R.n → S p q ≡ T p q
    same-sets H S T s t p q l k =
        let c = clip-in p l in
        ap (λ (i : ℕ). S i q) (sym c) ∙ unique R H _ _ _ _ (certify S s) (certify T t) p q k ∙ ap (λ (i : ℕ). T i q) c

-- ---- one letter more in front
module _ (r : Rule) (P : Passing r) (a : ℕ) (lead cycle : List ℕ) (repeats : 0 < length cycle) where
  abbrev R : Automaton
  R = automaton r

  abbrev L' : ℕ
  L' = places lead cycle

  abbrev nx : ℕ → ℕ
  nx = next_place_lem lead cycle

  abbrev after : ℕ → Set
  after = certain r P lead cycle repeats

  abbrev whole : ℕ → Set
  whole = certain r P (a ∷ lead) cycle repeats

  shifted : (d p q : ℕ) → p < L' → discharged R nx (letter_at_lem lead cycle) (λ i. whole (suc i)) p d q ≡ discharged R (next_place_lem (a ∷ lead) cycle) (letter_at_lem (a ∷ lead) cycle) whole (suc p) d q
  unfolding discharged letter_at_lem
  shifted zero p q l = refl
  shifted (suc d) p q l =
      let n = next-place-behind a lead cycle p in
      ap (λ (b : Bool). is_open R (whole (suc p)) q && b)
      (settled-ext R (whole (suc (nx p))) _ _ q _ (λ x m s. shifted d (nx p) x (next-place-low lead cycle repeats p l))
      ∙ ap (λ (i : ℕ). settled R (whole i) (discharged R (next_place_lem (a ∷ lead) cycle) (letter_at_lem (a ∷ lead) cycle) whole i d) q (R.entry q (letter_at_lem lead cycle p))) (sym n))

  settles-whole : Settles R L' nx (letter_at_lem lead cycle) (λ i. whole (suc i))
  unfolding letter_at_lem
  settles-whole = record {
    exact = λ p q l k. exact R (heights r P) (places (a ∷ lead) cycle) _ _ (next-place-low (a ∷ lead) cycle repeats) (suc p) q (omega arith) k
        ∙ ap (λ (i : ℕ). satisfies R.n (whole i) (R.entry q (letter_at_lem lead cycle p))) (next-place-behind a lead cycle p);
    near = λ p q l k o. (
      places (a ∷ lead) cycle * R.n,
      shifted (places (a ∷ lead) cycle * R.n) p q l
          ∙ near-open R (heights r P) (places (a ∷ lead) cycle) _ _ (next-place-low (a ∷ lead) cycle repeats) (suc p) q k o,
    );
  }

  settles-after : Settles R L' nx (letter_at_lem lead cycle) after
  settles-after = record {
    exact = λ p q l k. exact R (heights r P) L' _ _ (next-place-low lead cycle repeats) p q l k;
    near = λ p q l k o. (L' * R.n, near-open R (heights r P) L' _ _ (next-place-low lead cycle repeats) p q k o);
  }

  truth-tail : (p q : ℕ) → p < L' → q < r.n → truth r P (a ∷ lead) cycle repeats (suc p) q ≡ truth r P lead cycle repeats p q
  unfolding automaton
  truth-tail p q l k =
      truth-certain r P (a ∷ lead) cycle repeats (suc p) q (omega arith) k
      ∙ same-sets R L' nx (letter_at_lem lead cycle) (next-place-low lead cycle repeats) (omega arith) (heights r P) (λ i. whole (suc i)) after settles-whole settles-after p q l k
      ∙ sym (truth-certain r P lead cycle repeats p q l k)

  front : (q : ℕ) → q < r.n → truth r P (a ∷ lead) cycle repeats 0 q ≡ satisfies r.n (truth r P lead cycle repeats 0) (entry r q a)
  unfolding letter_at_lem
  front q k =
      truth-exact r P (a ∷ lead) cycle repeats 0 q (omega arith) k
      ∙ ap (λ (i : ℕ). satisfies r.n (truth r P (a ∷ lead) cycle repeats i) (entry r q a)) (next-place-first a lead cycle repeats)
      ∙ satisfies-ext r.n _ _ (λ x m. truth-tail 0 x (omega arith) m) (entry r q a)

  -- the mask in front holds the states whose entry at the letter the next mask satisfies
  pub truth-cons : truth_masks r (a ∷ lead) cycle ≡ mask r.n (λ q. satisfies r.n (bit (get_or (truth_masks r lead cycle) 0 0)) (entry r q a)) ∷ truth_masks r lead cycle
  truth-cons =
      ext_get_or 0 _ _ (omega (arith, truth-length r lead cycle, truth-length r (a ∷ lead) cycle)) at
    where
      at : (i : ℕ) → i < length (truth_masks r (a ∷ lead) cycle) → get_or (truth_masks r (a ∷ lead) cycle) i 0
          ≡ get_or (mask r.n (λ q. satisfies r.n (bit (get_or (truth_masks r lead cycle) 0 0)) (entry r q a)) ∷ truth_masks r lead cycle) i 0
      at zero l = mask-unique r.n _ _ (truth-lt r (a ∷ lead) cycle 0) front
      at (suc i) l =
          bit-ext r.n _ _ (truth-lt r (a ∷ lead) cycle (suc i)) (truth-lt r lead cycle i)
          (λ q k. truth-tail i q (let h = truth-length r (a ∷ lead) cycle in omega arith) k)
