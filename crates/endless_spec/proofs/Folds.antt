-- An accepted endless sequence has an accepted word with a cycle that begins as it does: between two steps where none owes and the same states are reached
-- the plan folds.
use mathlib.Core.Path.{◌≡◌, refl, sym, ap, ◌∙◌}
use mathlib.Core.Logic.{◌⊎◌, inl, inr, ⊎_elim, by_cases}
use mathlib.Core.Bool.{true, false}
use mathlib.Core.List.{Memᴰ}
use Prim.Native.Nat.{ℕ, zero, suc, ◌+◌, ◌-◌, ◌≤◌, ◌<◌}
use native.Mathlib.Omega.{arith}
use native.Mathlib.Decide.{dec_lt}
use native.Mathlib.Nat.{add-zero}
use Rattle.sets.specs.Masks.{bit}
use Rattle.sets.proofs.Bits.{bit-none}
use Rattle.sets.proofs.Bools.{clash}
use Rattle.theory.specs.Automaton.{Automaton}
use Rattle.theory.specs.Layered.{Layered}
use Rattle.theory.specs.Sequence.{Reaches, here, on, to_each, AcceptsAt}
use Rattle.theory.specs.Word.{letters}
use Rattle.theory_laws.proofs.Folding.{lead_of, cycle_of, at, at_first, letter_at, at_other, at_next, at_again}
use Rattle.endless_spec.proofs.Breakpoints.{reached, reached-low, reached-first, reached-next, reached-by, owing, owes-free, owes-on}

module _ (A : Automaton) (H : Layered A) (w : ℕ → ℕ) (a : ℕ) (start : a < A.n) (P : AcceptsAt A w a 0) (i j : ℕ) (later : i < j)
    (same : reached A w a start P i ≡ reached A w a start P j) (none-i : owing A w a start P i ≡ 0) (none-j : owing A w a start P j ≡ 0) where
  abbrev R : ℕ → ℕ
  R = reached A w a start P

  abbrev O : ℕ → ℕ
  O = owing A w a start P

  abbrev to : ℕ → ℕ
  to = at w i j later

  abbrev word : ℕ → ℕ
  word = letters (lead_of w i j later) (cycle_of w i j later)

  abbrev pick : ℕ → ℕ → ℕ
  pick q k = P.pick q (to k)

  abbrev E : ℕ → ℕ → ℕ → Type 0
  E = to_each A word pick

  -- the plan keeps to the states reached
  keeps : (q k : ℕ) → Reaches E a 0 q k → bit (R (to k)) q ≡ true
  keeps q k here = rw (at_first w i j later) (reached-first A w a start P)
  keeps q k (on {q = p} {i = m} r n c e s) =
      let b = reached-next A w a start P (to m) p r (keeps p m c) e.0 e.1 in
      rw s (ap (λ (x : ℕ). bit x r) (sym (at_next w i j later R same m)) ∙ b)

  valid : (q k : ℕ) → Reaches E a 0 q k → Memᴰ (pick q k) (A.entry q (word k))
  valid q k c = rw (letter_at w i j later k) (P.valid q (to k) (reached-by A w a start P (to k) q (keeps q k c)))

  -- ---- a rejecting state leaves its component: by the next step at i all that stays owes, and at j none does

  -- step i + t of the plan comes t steps after step i
  runs_on : (m t : ℕ) → to m ≡ i → t < j - i → to (m + t) ≡ i + t
  runs_on m zero e l = rw (add-zero m, add-zero i) e
  runs_on m (suc t) e l =
      let f = runs_on m t e (omega arith) in
      let x : m + suc t ≡ suc (m + t) = omega arith in
      ap to x ∙ at_other w i j later (m + t) (λ g. omega arith) ∙ omega arith

  module _ (q k : ℕ) (first : Reaches E a 0 q k) (rejects : A.accepting q ≡ false) (m : ℕ) (after : k < m) (at_i : to m ≡ i) where
    reaches_all : (r l : ℕ) → Reaches E q k r l → Reaches E a 0 r l
    reaches_all r l here = first
    reaches_all r l (on s n c e t) = on s n (reaches_all _ _ c) e t

    below : (r l : ℕ) → Reaches E q k r l → r < A.n
    below r l c = reached-low A w a start P (to l) r (keeps r l (reaches_all r l c))

    falls : (p l r : ℕ) → Reaches E q k p l → E p l r → (A.component r ≡ A.component p) ⊎ (H.height r < H.height p)
    falls p l r c e = H.down p (word l) (pick p l) r (below p l c) e.0 (valid p l (reaches_all p l c)) e.1

    lower : (r l : ℕ) → Reaches E q k r l → (A.component r ≡ A.component q) ⊎ (H.height r < H.height q)
    lower r l here = inl refl
    lower r l (on {q = p} {i = n} s u c e t) =
        let lp = below p n c in
        let lq = below q k here in
        ⊎_elim
        (λ x. ⊎_elim (λ y. inl (y ∙ x)) (λ y. let f = H.level p q lp lq x in inr (omega arith)) (falls p n s c e))
        (λ x. ⊎_elim (λ y. let f = H.level s p e.0 lp y in inr (omega arith)) (λ y. inr (omega arith)) (falls p n s c e))
        (lower p n c)

    -- a state of the component was come to from one of it
    came : (p l r : ℕ) → Reaches E q k p l → E p l r → A.component r ≡ A.component q → A.component p ≡ A.component q
    came p l r c e s =
        let lp = below p l c in
        let lq = below q k here in
        let g = H.level r q e.0 lq s in
        ⊎_elim (λ x. x) (λ x. ⊎_elim (λ y. y ∙ s) (λ y. absurd (omega arith)) (⊎_elim (λ y. inl (sym y)) (λ y. inr y) (falls p l r c e))) (lower p l c)

    owes : (r l t : ℕ) → Reaches E q k r l → A.component r ≡ A.component q → l ≡ m + suc t → t < j - i → bit (O (i + suc t)) r ≡ true
    owes r l t here s x y = absurd (omega arith)
    owes r l zero (on {q = p} {i = n} u v c e x) s y z =
        let d : n ≡ m = omega arith in
        let f : to n ≡ i = ap to d ∙ at_i in
        let g : i + suc 0 ≡ suc i = omega arith in
        let b = reached-next A w a start P (to n) p u (keeps p n (reaches_all p n c)) e.0 e.1 in
        rw g (owes-free A w a start P i u none-i (rw f at b) (H.pure u q e.0 (below q k here) s ∙ rejects))
    owes r l (suc t) (on {q = p} {i = n} u v c e x) s y z =
        let d : n ≡ m + suc t = omega arith in
        let f : to n ≡ i + suc t = ap to d ∙ runs_on m (suc t) at_i (omega arith) in
        let g : i + suc (suc t) ≡ suc (i + suc t) = omega arith in
        let sp = came p n u c e s in
        let o = owes p n t c sp d (omega arith) in
        rw g (owes-on A w a start P (i + suc t) p u o e.0 (ap (λ (x : ℕ). bit (P.pick p x) u) (sym f) ∙ e.1) (s ∙ sym sp) (H.pure u q e.0 (below q k here) s ∙ rejects))

    gone : (r l : ℕ) → Reaches E q k r l → m + (j - i) ≤ l → A.component r ≡ A.component q → ⊥
    gone r l here x s = omega arith
    gone r l (on {q = p} {i = n} u v c e y) x s =
        by_cases (dec_lt n (m + (j - i)))
        (λ z. let t = j - i - 1 in
        let o = owes u v t (on u v c e y) s (omega arith) (omega arith) in
        let f : i + suc t ≡ j = omega arith in
        clash (rw (f, none-j) at o) (bit-none u))
        (λ z. gone p n c (omega arith) (came p n u c e s))

  pub folded : AcceptsAt A (letters (lead_of w i j later) (cycle_of w i j later)) a 0
  folded = record {
    pick = pick;
    valid = valid;
    leaves = λ q k c rejects. let (m, l, e) = at_again w i j later k in
        record { steps = m + (j - i) - k; left = λ r n d x s. gone q k c rejects m l e r n d (omega arith) s };
  }
