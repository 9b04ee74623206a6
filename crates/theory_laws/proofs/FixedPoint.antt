-- The solved sets of a word are certified.
use mathlib.Core.Path.{◌≡◌, refl, sym, ◌∙◌, ap}
use mathlib.Core.Logic.{⊎_elim, by_cases}
use mathlib.Core.Bool.{Bool, true, false, ◌&&◌, not, cond, false≢true}
use mathlib.Core.List.{Memᴰ}
use Prim.Native.Nat.{ℕ, zero, suc, ◌+◌, ◌-◌, ◌*◌, ◌/◌, ◌%◌, ◌≤◌, ◌<◌}
use native.Mathlib.Omega.{arith}
use native.Mathlib.Decide.{ℕ_discrete}
use native.Mathlib.Nat.{add-zero, add-suc, mod-lt, div-lt_iff_lt-mul}
use lib.Arith.{digits_div, digits_mod, digits_lt}
use borrow.Author.Tests.{eq-eqb, ne_eqb}
use Rattle.sets.specs.Masks.{bit, exclusive}
use Rattle.sets.specs.Tests.{Set}
use Rattle.sets.proofs.Bools.{and_i, xor-twice}
use Rattle.sets.proofs.Growth.{still}
use Rattle.theory.specs.Automaton.{Automaton}
use Rattle.theory.specs.Layered.{Layered}
use Rattle.theory.specs.Core.{is_open, settled}
use Rattle.theory.specs.Rule.{satisfies}
use Rattle.theory.specs.Word.{place}
use Rattle.theory_laws.proofs.Certified.{discharged, Certified, rounds, solved}
use Rattle.theory_laws.proofs.Pursuit.{open_at}
use Rattle.theory_laws.proofs.Settled.{settled-in-ext, settled-ext, settled-mono, settled-all}

-- every step of a word is at one of its places
pub place-below : (L : ℕ) (nx : ℕ → ℕ) → ((p : ℕ) → p < L → nx p < L) → 0 < L → (i : ℕ) → place nx i < L
unfolding place
place-below L nx stays h zero = h
place-below L nx stays h (suc i) = stays (place nx i) (place-below L nx stays h i)

module _ (A : Automaton) (L : ℕ) (nx w : ℕ → ℕ) (stays : (p : ℕ) → p < L → nx p < L) (X : ℕ → Set) where
  rounds-up : (d p q : ℕ) → q < A.n → rounds A nx w X d p q ≡ true → rounds A nx w X (suc d) p q ≡ true
  unfolding rounds
  rounds-up zero p q l e = absurd (false≢true e)
  rounds-up (suc d) p q l e = settled-mono A _ _ _ q _ (λ r m s t. rounds-up d (nx p) r m t) e

  rounds-le : (e d p q : ℕ) → q < A.n → rounds A nx w X d p q ≡ true → rounds A nx w X (d + e) p q ≡ true
  rounds-le zero d p q l t = rw add-zero t
  rounds-le (suc e) d p q l t = rw add-suc (rounds-up (d + e) p q l (rounds-le e d p q l t))

  -- pairs of a place and a state as one number
  flat : ℕ → Set
  flat d x = rounds A nx w X d (x / A.n) (x % A.n)

  flat-at : (d p q : ℕ) → q < A.n → flat d (p * A.n + q) ≡ rounds A nx w X d p q
  unfolding flat
  flat-at d p q l = rw (digits_div p l, digits_mod p l)

  pos : (x : ℕ) → x < L * A.n → 0 < A.n
  pos x h = by_cases (ℕ_discrete A.n 0) (λ e. let y : L * A.n ≡ L * 0 = rw e in absurd (omega arith)) (λ e. omega arith)

  flat-det : (d : ℕ) → ((x : ℕ) → x < L * A.n → flat d x ≡ flat (suc d) x) → (x : ℕ) → x < L * A.n → flat (suc d) x ≡ flat (suc (suc d)) x
  unfolding flat rounds
  flat-det d h x l =
      let b = stays (x / A.n) ((div-lt_iff_lt-mul (pos x l)).1 l) in
      settled-ext A _ _ _ (x % A.n) _ (λ r m s. sym (flat-at d (nx (x / A.n)) r m) ∙ h (nx (x / A.n) * A.n + r) (digits_lt b m) ∙ flat-at (suc d) (nx (x / A.n)) r m)

  -- after L * n rounds nothing changes
  rounds-still : (p q : ℕ) → p < L → q < A.n → rounds A nx w X (L * A.n) p q ≡ rounds A nx w X (suc (L * A.n)) p q
  unfolding flat
  rounds-still p q l m =
      sym (flat-at (L * A.n) p q m)
      ∙ still (L * A.n) flat (λ d x h t. rounds-up d (x / A.n) (x % A.n) (mod-lt x (pos x h)) t) flat-det (p * A.n + q) (digits_lt l m)
      ∙ flat-at (suc (L * A.n)) p q m

module _ (A : Automaton) (H : Layered A) (L : ℕ) (nx w : ℕ → ℕ) (stays : (p : ℕ) → p < L → nx p < L) where
  abbrev sol : ℕ → ℕ → Set
  sol h = solved A nx w H.height (L * A.n) h

  -- a state's own rounds
  abbrev own : ℕ → ℕ → ℕ → Bool
  own d p q = rounds A nx w (sol (H.height q)) d p q

  sol-at : (p q : ℕ) → sol (suc (H.height q)) p q ≡ cond (A.accepting q) (not (own (L * A.n) p q)) (own (L * A.n) p q)
  unfolding solved
  sol-at p q = ap (λ (b : Bool). cond b (cond (A.accepting q) (not (own (L * A.n) p q)) (own (L * A.n) p q)) (sol (H.height q) p q)) (eq-eqb (H.height q) _ refl)

  sol-skip : (h p q : ℕ) → (H.height q ≡ h → ⊥) → sol (suc h) p q ≡ sol h p q
  unfolding solved
  sol-skip h p q e = ap (λ (b : Bool). cond b (cond (A.accepting q) (not (rounds A nx w (sol h) (L * A.n) p q)) (rounds A nx w (sol h) (L * A.n) p q)) (sol h p q)) (ne_eqb _ _ e)

  sol-top : (h p q : ℕ) → H.height q < h → sol h p q ≡ sol (suc (H.height q)) p q
  sol-top zero p q l = absurd (omega arith)
  sol-top (suc h) p q l = by_cases (ℕ_discrete (H.height q) h) (λ e. rw e) (λ e. sol-skip h p q e ∙ sol-top h p q (omega arith))

  abbrev pub Sp : ℕ → Set
  Sp = sol H.top

  set_is : (p q : ℕ) → q < A.n → Sp p q ≡ cond (A.accepting q) (not (own (L * A.n) p q)) (own (L * A.n) p q)
  set_is p q l = sol-top H.top p q (H.tall q l) ∙ sol-at p q

  open_is : (p q : ℕ) → q < A.n → is_open A (Sp p) q ≡ own (L * A.n) p q
  open_is p q l = open_at A (A.accepting q) (own (L * A.n) p q) (Sp p) q refl (set_is p q l)

  -- heights in a component, and out of it
  own_same : (d p q r : ℕ) → q < A.n → r < A.n → A.component r ≡ A.component q → rounds A nx w (sol (H.height q)) d p r ≡ own d p r
  own_same d p q r l m c = ap (λ (h : ℕ). rounds A nx w (sol h) d p r) (sym (H.level r q m l c))

  outside : (p q : ℕ) → q < A.n → (c r : ℕ) → Memᴰ c (A.entry q (w p)) → r < A.n → bit c r ≡ true → (A.component r ≡ A.component q → ⊥)
      → sol (H.height q) (nx p) r ≡ Sp (nx p) r
  outside p q l c r m k b n =
      ⊎_elim (λ s. absurd (n s)) (λ lt. sol-top (H.height q) (nx p) r lt ∙ sym (sol-top H.top (nx p) r (H.tall r k))) (H.down q (w p) c r l k m b)

  pub exact : (p q : ℕ) → p < L → q < A.n → Sp p q ≡ satisfies A.n (Sp (nx p)) (A.entry q (w p))
  unfolding rounds
  exact p q k l =
      let e = A.entry q (w p) in
      let o : own (L * A.n) p q ≡ settled A (Sp (nx p)) (is_open A (Sp (nx p))) q e
      = rounds-still A L nx w stays (sol (H.height q)) p q k l
      ∙ settled-in-ext A _ _ _ _ q e (λ c r m b t s. own_same (L * A.n) (nx p) q r l b s ∙ sym (open_is (nx p) r b)) (outside p q l) in
      set_is p q l ∙ ap (exclusive (A.accepting q)) (o ∙ settled-all A H (Sp (nx p)) q l e) ∙ xor-twice (A.accepting q) _

  near : (d p q : ℕ) → q < A.n → d ≤ L * A.n → own d p q ≡ true → discharged A nx w Sp p d q ≡ true
  unfolding rounds discharged
  near zero p q l h e = e
  near (suc d) p q l h e =
      let x : suc d + (L * A.n - suc d) ≡ L * A.n = omega arith in
      and_i (open_is p q l ∙ (rw x at (rounds-le A L nx w stays (sol (H.height q)) (L * A.n - suc d) (suc d) p q l e)))
      (settled-mono A _ (rounds A nx w (sol (H.height q)) d (nx p)) _ q _ (λ r m s t. near d (nx p) r m (omega arith) (sym (own_same d (nx p) q r l m s) ∙ t))
      (sym (settled-in-ext A _ _ _ _ q _ (λ c r m b t s. refl) (outside p q l)) ∙ e))

  pub near-open : (p q : ℕ) → q < A.n → is_open A (Sp p) q ≡ true → discharged A nx w Sp p (L * A.n) q ≡ true
  near-open p q l o = near (L * A.n) p q l (omega arith) (sym (open_is p q l) ∙ o)

  sol-over : (h p q : ℕ) → h ≤ H.height q → sol h p q ≡ false
  unfolding solved
  sol-over zero p q l = refl
  sol-over (suc h) p q l = sol-skip h p q (λ e. omega arith) ∙ sol-over h p q (omega arith)

  pub trimmed : (p q : ℕ) → A.n ≤ q → Sp p q ≡ false
  trimmed p q l = sol-over H.top p q (H.edge q l)

  -- on the steps of the word
  abbrev pub Si : ℕ → Set
  Si i = Sp (place nx i)

  abbrev pub wi : ℕ → ℕ
  wi i = w (place nx i)

  discharged-steps : (d i q : ℕ) → discharged A suc wi Si i d q ≡ discharged A nx w Sp (place nx i) d q
  unfolding discharged place
  discharged-steps zero i q = refl
  discharged-steps (suc d) i q = ap (λ (b : Bool). is_open A (Si i) q && b) (settled-ext A _ _ _ q _ (λ r m s. discharged-steps d (suc i) r))

  pub solved-certified : 0 < L → Certified A suc wi Si
  unfolding place
  solved-certified h = record {
    exact = λ i q l. exact (place nx i) q (place-below L nx stays h i) l;
    finite = λ i q l o. (L * A.n, discharged-steps (L * A.n) i q ∙ near (L * A.n) (place nx i) q l (omega arith) (sym (open_is (place nx i) q l) ∙ o));
  }
