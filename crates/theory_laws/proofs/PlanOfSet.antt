-- A state of the solved sets named a plan.
use mathlib.Core.Path.{◌≡◌, sym, ◌∙◌, refl}
use mathlib.Core.Logic.{◌⊎◌, inl, inr, ⊎_elim}
use mathlib.Core.Bool.{true, false, cond, false≢true}
use mathlib.Core.List.{List, [], ◌∷◌, Memᴰ}
use Prim.Native.Nat.{ℕ, suc, ◌-◌, ◌<◌}
use native.Mathlib.Omega.{arith}
use lib.Dec.{eqb, leb}
use borrow.Author.Tests.{leb-true, leb-false, le-leb, eqb-true, eq-eqb}
use Rattle.sets.specs.Masks.{bit, inside}
use Rattle.sets.specs.Tests.{Set, first}
use Rattle.sets.proofs.Bools.{bif, or-rt}
use Rattle.sets.proofs.Tests.{first-leb}
use Rattle.theory.specs.Automaton.{Automaton}
use Rattle.theory.specs.Layered.{Layered}
use Rattle.theory.specs.Core.{is_open, mix}
use Rattle.theory.specs.Plan.{Reach, here, on, Accepts}
use Rattle.theory.specs.Rule.{satisfies}
use Rattle.theory_laws.proofs.Certified.{discharged}
use Rattle.theory_laws.proofs.Distance.{discharged-le}
use Rattle.theory_laws.proofs.Pursuit.{open-kind, mix-in, mix-out, settled-kind, discharged-open, discharged-settled}
use Rattle.sets.proofs.Members.{inside-at}

-- the first clause inside X
unfoldable pub choose : ℕ → Set → List ℕ → ℕ
choose n X [] = 0
choose n X (c ∷ cs) = elim (inside n X c) [ true ↦ c | false ↦ choose n X cs ]

pub chosen : (n : ℕ) (X : Set) (cs : List ℕ) → satisfies n X cs ≡ true → Memᴰ (choose n X cs) cs × (inside n X (choose n X cs) ≡ true)
unfolding satisfies choose
chosen n X [] e = absurd (false≢true e)
chosen n X (c ∷ cs) e =
    bif (inside n X c) (λ t. rw (t, choose) (Memᴰ.head refl, t))
    (λ t. let r = chosen n X cs (or-rt (inside n X c) (satisfies n X cs) e t) in rw (t, choose) (Memᴰ.tail r.0, r.1))

module _ (A : Automaton) (H : Layered A) (L : ℕ) (nx w : ℕ → ℕ) (stays : (p : ℕ) → p < L → nx p < L) (S : ℕ → Set)
    (exact : (p q : ℕ) → p < L → q < A.n → S p q ≡ satisfies A.n (S (nx p)) (A.entry q (w p)))
    (N : ℕ) (near : (p q : ℕ) → q < A.n → is_open A (S p) q ≡ true → discharged A nx w S p N q ≡ true) where
  -- within how many steps a pair is discharged
  pub δ : ℕ → ℕ → ℕ
  δ p q = first N (λ d. discharged A nx w S p d q) 0

  pub δ-leb : (p q : ℕ) → q < A.n → is_open A (S p) q ≡ true → (d : ℕ) → leb (δ p q) d ≡ discharged A nx w S p d q
  unfolding δ
  δ-leb p q l o d = first-leb N _ (λ a b h t. discharged-le A nx w S a b p q l h t) (near p q l o) d

  pub δ-pos : (p q : ℕ) → q < A.n → is_open A (S p) q ≡ true → 0 < δ p q
  unfolding discharged
  δ-pos p q l o = leb-false (δ p q) 0 (δ-leb p q l o 0)

  -- what the clause is chosen from
  unfoldable pub aim : ℕ → ℕ → Set
  aim q p = cond (A.accepting q) (S (nx p)) (mix A q (S (nx p)) (discharged A nx w S (nx p) (δ p q - 1)))

  pub record Good (q p : ℕ) : Type 0 where
    pub below : q < A.n
    pub place : p < L
    pub true-in : S p q ≡ true

  pub aim-sat : (q p : ℕ) → Good q p → satisfies A.n (aim q p) (A.entry q (w p)) ≡ true
  unfolding aim
  aim-sat q p g =
      bif (A.accepting q) (λ a. rw a (sym (exact p q g.place g.below) ∙ g.true-in))
      (λ a.
      let o = open-kind A false (S p) q a ∙ g.true-in in
      let h = δ-pos p q g.below o in
      let x : suc (δ p q - 1) ≡ δ p q = omega arith in
      let t : discharged A nx w S p (suc (δ p q - 1)) q ≡ true = rw x (sym (δ-leb p q g.below o (δ p q)) ∙ le-leb (δ p q) (δ p q) (omega arith)) in
      rw a (sym (settled-kind A false (S (nx p)) _ q _ a) ∙ discharged-settled A nx w S p (δ p q - 1) q t))

  -- what is aimed at is true, and in the component of a rejecting state nearer
  module _ (q p r : ℕ) (g : Good q p) (l : r < A.n) (h : aim q p r ≡ true) where
    pub aim-nearer : A.accepting q ≡ false → A.component r ≡ A.component q → (S (nx p) r ≡ true) × (δ (nx p) r < δ p q)
    unfolding aim
    aim-nearer a c =
        let t : discharged A nx w S (nx p) (δ p q - 1) r ≡ true = sym (mix-in A q _ _ r (eq-eqb _ _ c)) ∙ (rw (a, aim) at h) in
        let o = discharged-open A nx w S (nx p) (δ p q - 1) r t in
        let Near-by = leb-true (δ (nx p) r) (δ p q - 1) (δ-leb (nx p) r l o (δ p q - 1) ∙ t) in
        let k = δ-pos p q g.below (open-kind A false (S p) q a ∙ g.true-in) in
        (sym (open-kind A false (S (nx p)) r (H.pure r q l g.below c ∙ a)) ∙ o, omega arith)

    pub aim-true : S (nx p) r ≡ true
    unfolding aim
    aim-true =
        bif (A.accepting q) (λ a. rw (a, aim) at h)
        (λ a. bif (eqb (A.component r) (A.component q)) (λ c. (aim-nearer a (eqb-true _ _ c)).0) (λ c. sym (mix-out A q _ _ r c) ∙ (rw (a, aim) at h)))

  -- the clause of each true pair is one of its entry and inside what it is chosen from
  pub record Aimed (pick : ℕ → ℕ → ℕ) : Type 0 where
    pub listed : (q p : ℕ) → Good q p → Memᴰ (pick q p) (A.entry q (w p))
    pub within : (q p r : ℕ) → Good q p → r < A.n → bit (pick q p) r ≡ true → aim q p r ≡ true

  module _ (pick : ℕ → ℕ → ℕ) (P : Aimed pick) where
    -- in the component of a rejecting state the plan stays true and comes nearer
    pub nearer : (q p r : ℕ) → Good q p → r < A.n → bit (pick q p) r ≡ true → A.accepting q ≡ false → A.component r ≡ A.component q → (S (nx p) r ≡ true) × (δ (nx p) r < δ p q)
    nearer q p r g l b = aim-nearer q p r g l (P.within q p r g l b)

    -- a step of the plan
    pub good-on : (q p r : ℕ) → Good q p → r < A.n → bit (pick q p) r ≡ true → Good r (nx p)
    good-on q p r g l b = record { below = l; place = stays p g.place; true-in = aim-true q p r g l (P.within q p r g l b) }

    -- no higher
    pub lower : (q p r : ℕ) → Good q p → r < A.n → bit (pick q p) r ≡ true → (A.component r ≡ A.component q) ⊎ (H.height r < H.height q)
    lower q p r g l b = H.down q (w p) (pick q p) r g.below l (P.listed q p g) b

    reached : (a x q p : ℕ) → Good a x → Reach A nx w pick a x q p → Good q p
    reached a x q p g here = g
    reached a x q p g (on {q = q'} {p = p'} r y c l b e) = rw e (good-on q' p' r (reached a x q' p' g c) l b)

    module _ (q p : ℕ) (g : Good q p) (a : A.accepting q ≡ false) where
      Back : ℕ → ℕ → Type 0
      Back x y = (H.height x < H.height q) ⊎ ((A.component x ≡ A.component q) × (δ y x < δ p q))

      back_on : (x y r : ℕ) → Good x y → Back x y → r < A.n → bit (pick x y) r ≡ true → Back r (nx y)
      unfolding Back
      back_on x y r gx h l b =
          ⊎_elim
          (λ lt. inl (⊎_elim (λ c. let e = H.level r x l gx.below c in omega arith) (λ m. omega arith) (lower x y r gx l b)))
          (λ k. ⊎_elim
          (λ c. let n = nearer x y r gx l b (H.pure x q gx.below g.below k.0 ∙ a) c in inr (c ∙ k.0, omega (arith, k.1, n.1)))
          (λ m. let e = H.level x q gx.below g.below k.0 in inl (omega arith))
          (lower x y r gx l b))
          h

      along : (s x y : ℕ) → Good s (nx p) → Back s (nx p) → Reach A nx w pick s (nx p) x y → Back x y
      along s x y gs h here = h
      along s x y gs h (on {q = q'} {p = p'} r z c l b e) = rw e (back_on q' p' r (reached s (nx p) q' p' gs c) (along s q' p' gs h c) l b)

      no_loop : (r : ℕ) → r < A.n → bit (pick q p) r ≡ true → Reach A nx w pick r (nx p) q p → ⊥
      unfolding Back
      no_loop r l b c =
          let gr = good-on q p r g l b in
          let h : Back r (nx p) = ⊎_elim (λ k. inr (k, (nearer q p r g l b a k).1)) inl (lower q p r g l b) in
          ⊎_elim (λ lt. omega arith) (λ k. omega (arith, k.1)) (along r q p gr h c)

    -- such a plan reaches only true pairs, each with a clause of its entry, and none with a rejecting state again
    pub aimed-valid : (q p : ℕ) → Good q p → (x y : ℕ) → Reach A nx w pick q p x y → Memᴰ (pick x y) (A.entry x (w y))
    aimed-valid q p g x y c = P.listed x y (reached q p x y g c)

    pub aimed-fair : (q p : ℕ) → Good q p → (x y : ℕ) → Reach A nx w pick q p x y → A.accepting x ≡ false
        → (r : ℕ) → r < A.n → bit (pick x y) r ≡ true → Reach A nx w pick r (nx y) x y → ⊥
    aimed-fair q p g x y c a r m b d = no_loop x y (reached q p x y g c) a r m b d

  -- the first clause inside
  pick : ℕ → ℕ → ℕ
  pick q p = choose A.n (aim q p) (A.entry q (w p))

  picked : Aimed pick
  unfolding pick
  picked = record {
    listed = λ q p g. (chosen A.n (aim q p) (A.entry q (w p)) (aim-sat q p g)).0;
    within = λ q p r g l b. inside-at A.n (aim q p) _ (chosen A.n (aim q p) (A.entry q (w p)) (aim-sat q p g)).1 r l b;
  }

  pub accepted : (q p : ℕ) → q < A.n → p < L → S p q ≡ true → Accepts A nx w q p
  accepted q p l k e =
      let g : Good q p = record { below = l; place = k; true-in = e } in
      record { pick = pick; valid = aimed-valid pick picked q p g; fair = aimed-fair pick picked q p g }
