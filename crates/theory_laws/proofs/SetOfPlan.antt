-- A state with a plan is in the solved sets.
use mathlib.Core.Path.{◌≡◌, refl, sym, ◌∙◌, ap, subst₂}
use mathlib.Core.Logic.{◌⊎◌, ⊎_elim}
use mathlib.Core.Bool.{true, false, ◌&&◌, ◌||◌, not, false≢true}
use mathlib.Core.List.{[], List, ◌∷◌, Memᴰ}
use Prim.Native.Nat.{ℕ, zero, suc, ◌+◌, ◌*◌, ◌/◌, ◌%◌, ◌≤◌, ◌<◌}
use native.Mathlib.Omega.{arith}
use lib.Dec.{eqb, ltb}
use lib.Arith.{digits_div, digits_mod, digits_lt}
use borrow.Author.Tests.{eqb-true, eqb-false, lt-ltb}
use Rattle.sets.specs.Masks.{bit, inside}
use Rattle.sets.specs.Tests.{Set, count, one}
use Rattle.sets.proofs.Bools.{bif, or-fl, or-fr, or_cases, not_f, not_t}
use Rattle.sets.proofs.Tests.{every-not, count-max}
use Rattle.theory.specs.Automaton.{Automaton}
use Rattle.theory.specs.Layered.{Layered}
use Rattle.theory.specs.Core.{is_open, mix}
use Rattle.theory.specs.Plan.{Reach, here, on, Accepts}
use Rattle.theory.specs.Rule.{satisfies}
use Rattle.theory_laws.proofs.Certified.{discharged}
use Rattle.theory_laws.proofs.Classes.{insert-t}
use Rattle.theory_laws.proofs.Pursuit.{open-kind, mix-in, mix-out, settled-kind, discharged-open, discharged-settled}

-- a listed clause named a member outside a set that does not satisfy the entry
out : (n : ℕ) (Y : Set) (c : ℕ) (cs : List ℕ) → Memᴰ c cs → satisfies n Y cs ≡ false → inside n Y c ≡ false
unfolding satisfies
out n Y c [] x'' e = elim x'' [ ]
out n Y c (d ∷ cs) (Memᴰ.head x) e = rw x (or-fl (inside n Y d) (satisfies n Y cs) e)
out n Y c (d ∷ cs) (Memᴰ.tail k) e = out n Y c cs k (or-fr (inside n Y d) (satisfies n Y cs) e)

pub miss : (n : ℕ) (Y : Set) (cs : List ℕ) (c : ℕ) → Memᴰ c cs → satisfies n Y cs ≡ false → (r : ℕ) × (r < n) × (bit c r ≡ true) × (Y r ≡ false)
unfolding inside
miss n Y cs c m e =
    let f = every-not n (λ q. not (bit c q) || Y q) (out n Y c cs m e) in
    (f.0, f.1, not_f (bit c f.0) (or-fl (not (bit c f.0)) (Y f.0) f.2), or-fr (not (bit c f.0)) (Y f.0) f.2)

-- pairs as numbers
pair_eq : (n p q y a : ℕ) → q < n → a < n → p * n + q ≡ y * n + a → (p ≡ y) × (q ≡ a)
pair_eq n p q y a l m e =
    (sym (digits_div p l) ∙ ap (λ (x : ℕ). x / n) e ∙ digits_div y m, sym (digits_mod p l) ∙ ap (λ (x : ℕ). x % n) e ∙ digits_mod y m)

module _ (A : Automaton) (H : Layered A) (L : ℕ) (nx w : ℕ → ℕ) (stays : (p : ℕ) → p < L → nx p < L) (S : ℕ → Set)
    (exact : (p q : ℕ) → p < L → q < A.n → S p q ≡ satisfies A.n (S (nx p)) (A.entry q (w p)))
    (N : ℕ) (near : (p q : ℕ) → q < A.n → is_open A (S p) q ≡ true → discharged A nx w S p N q ≡ true)
    (a0 x0 : ℕ) (P : Accepts A nx w a0 x0) where
  -- reached, and outside the sets
  record Out (q p : ℕ) : Type 0 where
    below : q < A.n
    place : p < L
    come : Reach A nx w P.pick a0 x0 q p
    false-in : S p q ≡ false

  go_on : (q p r : ℕ) → Out q p → r < A.n → bit (P.pick q p) r ≡ true → S (nx p) r ≡ false → Out r (nx p)
  go_on q p r o l b e = record { below = l; place = stays p o.place; come = on r (nx p) o.come l b refl; false-in = e }

  lower : (q p r : ℕ) → Out q p → r < A.n → bit (P.pick q p) r ≡ true → (A.component r ≡ A.component q) ⊎ (H.height r < H.height q)
  lower q p r o l b = H.down q (w p) (P.pick q p) r o.below l (P.valid q p o.come) b

  -- an accepting state outside comes nearer, or lower
  acc-step : (h : ℕ) (d q p r : ℕ) → ((q p : ℕ) → H.height q < suc h → Out q p → A.accepting q ≡ true → discharged A nx w S p d q ≡ true → ⊥) → ((q p : ℕ) → H.height q < h → Out q p → ⊥)
      → H.height q < suc h → Out q p → A.accepting q ≡ true → r < A.n → bit (P.pick q p) r ≡ true → mix A q (λ s. not (S (nx p) s)) (discharged A nx w S (nx p) d) r ≡ true → ⊥
  acc-step h d q p r ihd ih k o a l b m =
      bif (eqb (A.component r) (A.component q))
      (λ t. let c = eqb-true _ _ t in
      let v : discharged A nx w S (nx p) d r ≡ true = sym (mix-in A q _ _ r t) ∙ m in
      let a' = H.pure r q l o.below c ∙ a in
      let e = H.level r q l o.below c in
      ihd r (nx p) (omega arith) (go_on q p r o l b (not_t _ (sym (open-kind A true (S (nx p)) r a') ∙ discharged-open A nx w S (nx p) d r v))) a' v)
      (λ t. ⊎_elim (λ c. eqb-false _ _ t c) (λ lt. ih r (nx p) (omega arith) (go_on q p r o l b (not_t _ (sym (mix-out A q _ _ r t) ∙ m)))) (lower q p r o l b))

  acc-hunt : (h : ℕ) → ((q p : ℕ) → H.height q < h → Out q p → ⊥) → (d q p : ℕ) → H.height q < suc h → Out q p → A.accepting q ≡ true → discharged A nx w S p d q ≡ true → ⊥
  unfolding discharged
  acc-hunt h ih zero q p k o a t = false≢true t
  acc-hunt h ih (suc d) q p k o a t =
      let f = miss A.n (λ r. not (mix A q (λ s. not (S (nx p) s)) (discharged A nx w S (nx p) d) r)) (A.entry q (w p)) (P.pick q p) (P.valid q p o.come)
      (not_t _ (sym (settled-kind A true _ _ q _ a) ∙ discharged-settled A nx w S p d q t)) in
      acc-step h d q p f.0 (acc-hunt h ih d) ih k o a f.1 f.2 (not_f _ f.3)

  rej-step : (q p : ℕ) → Out q p → (r : ℕ) × (r < A.n) × (bit (P.pick q p) r ≡ true) × (S (nx p) r ≡ false)
  rej-step q p o = miss A.n (S (nx p)) (A.entry q (w p)) (P.pick q p) (P.valid q p o.come) (sym (exact p q o.place o.below) ∙ o.false-in)

  -- the pairs of Vis were passed on the way to q at p
  record Back (a y q p : ℕ) : Type 0 where
    come : Reach A nx w P.pick a0 x0 a y
    rej : A.accepting a ≡ false
    first : ℕ
    below : first < A.n
    member : bit (P.pick a y) first ≡ true
    way : Reach A nx w P.pick first (nx y) q p

  Seen : Set → ℕ → ℕ → Type 0
  Seen Vis q p = (a y : ℕ) → a < A.n → Vis (y * A.n + a) ≡ true → Back a y q p

  more : (Vis : Set) (q p r : ℕ) → Out q p → A.accepting q ≡ false → Seen Vis q p → r < A.n → bit (P.pick q p) r ≡ true → Seen (λ j. Vis j || eqb (p * A.n + q) j) r (nx p)
  unfolding Seen
  more Vis q p r o c v l b a y m t =
      ⊎_elim
      (λ u. let x = v a y m u in
      record { come = x.come; rej = x.rej; first = x.first; below = x.below; member = x.member; way = on r (nx p) x.way l b refl })
      (λ u. let e = pair_eq A.n p q y a o.below m (eqb-true _ _ u) in
      subst₂ (λ (y' a' : ℕ). Back a' y' r (nx p)) e.0 e.1 (record { come = o.come; rej = c; first = r; below = l; member = b; way = here }))
      (or_cases (Vis (y * A.n + a)) (eqb (p * A.n + q) (y * A.n + a)) t)

  again : (Vis : Set) (q p : ℕ) → Out q p → Seen Vis q p → Vis (p * A.n + q) ≡ true → ⊥
  unfolding Seen
  again Vis q p o v t = let x = v q p o.below t in P.fair q p o.come x.rej x.first x.below x.member x.way

  grow : (Vis : Set) (q p : ℕ) → Out q p → Vis (p * A.n + q) ≡ false → count (L * A.n) (λ j. Vis j || eqb (p * A.n + q) j) ≡ count (L * A.n) Vis + 1
  grow Vis q p o t =
      let z : one (ltb (p * A.n + q) (L * A.n) && not (Vis (p * A.n + q))) ≡ 1 = rw (lt-ltb (p * A.n + q) (L * A.n) (digits_lt o.place o.below), t) in
      omega (arith, insert-t (L * A.n) (p * A.n + q) Vis)

  -- a rejecting state outside comes lower, or back
  rej-hunt : (h : ℕ) → ((q p : ℕ) → H.height q < h → Out q p → ⊥) → (f : ℕ) (Vis : Set) (q p : ℕ) → L * A.n ≤ f + count (L * A.n) Vis → H.height q < suc h → Out q p → A.accepting q ≡ false →
      Seen Vis q p → ⊥
  rej-hunt h ih zero Vis q p m k o c v =
      bif (Vis (p * A.n + q)) (again Vis q p o v)
      (λ t. let g = grow Vis q p o t in let b = count-max (L * A.n) (λ j. Vis j || eqb (p * A.n + q) j) in omega arith)
  rej-hunt h ih (suc f) Vis q p m k o c v =
      bif (Vis (p * A.n + q)) (again Vis q p o v)
      (λ t. let g = grow Vis q p o t in
      let x = rej-step q p o in
      let n = go_on q p x.0 o x.1 x.2 x.3 in
      ⊎_elim
      (λ e. let y = H.level x.0 q x.1 o.below e in
      rej-hunt h ih f (λ j. Vis j || eqb (p * A.n + q) j) x.0 (nx p) (omega arith) (omega arith) n (H.pure x.0 q x.1 o.below e ∙ c) (more Vis q p x.0 o c v x.1 x.2))
      (λ lt. ih x.0 (nx p) (omega arith) n)
      (lower q p x.0 o x.1 x.2))

  hunt : (h q p : ℕ) → H.height q < h → Out q p → ⊥
  unfolding Seen
  hunt zero q p l o = omega arith
  hunt (suc h) q p l o =
      bif (A.accepting q)
      (λ a. acc-hunt h (hunt h) N q p l o a (near p q o.below (open-kind A true (S p) q a ∙ ap not o.false-in)))
      (λ a. rej-hunt h (hunt h) (L * A.n) (λ j. false) q p (omega arith) l o a (λ b y m t. absurd (false≢true t)))

  pub true-in : a0 < A.n → x0 < L → S x0 a0 ≡ true
  true-in l k = bif (S x0 a0) (λ t. t) (λ t. absurd (hunt (suc (H.height a0)) a0 x0 (omega arith) (record { below = l; place = k; come = here; false-in = t })))
