-- Ranks depend on the order of the levels alone, and there are no more of them than states.
use mathlib.Core.Path.{◌≡◌, refl, sym, ◌∙◌, ap, ap₂}
use mathlib.Core.Logic.{by_cases}
use mathlib.Core.Bool.{Bool, true, false, ◌&&◌, ◌||◌, not, cond, or-false, or-true, and_assoc}
use Prim.Native.Nat.{ℕ, zero, suc, ◌+◌, ◌≤◌, ◌<◌}
use native.Mathlib.Omega.{arith}
use native.Mathlib.Decide.{dec_le, dec_lt, ℕ_discrete}
use lib.Dec.{eqb, leb, ltb, leb-suc-suc}
use borrow.Author.Tests.{le-leb, lt-leb, eqb-true, eq-eqb, ne_eqb, lt-ltb, le-ltb, leb-true}
use Rattle.sets.specs.Tests.{Set, some_below, count, one}
use Rattle.sets.proofs.Bools.{bif, and_l, and_r, and_i, iff}
use Rattle.sets.proofs.Tests.{count-ext, some-ext, some_at, count-le, count-lt, count-max, count-sub, count-trim}
use Rattle.theory.specs.Automaton.{Automaton}
use Rattle.theory.specs.Core.{is_open, open_of_lem}
use Rattle.theory.specs.CoreComputed.{taken, rank_of}

one-not : (b : Bool) → one b + one (not b) ≡ 1
one-not true = refl
one-not false = refl

ltb-suc : (a M : ℕ) → (a ≡ M → ⊥) → ltb a (suc M) ≡ ltb a M
ltb-suc a M n = by_cases (dec_lt a M) (λ h. lt-ltb a (suc M) (omega arith) ∙ sym (lt-ltb a M h)) (λ h. le-ltb a (suc M) (omega arith) ∙ sym (le-ltb a M (omega arith)))

eqb-leb : (a b : ℕ) → eqb a b ≡ leb a b && leb b a
eqb-leb a b =
    iff _ _ (λ t. let e = eqb-true a b t in and_i (le-leb a b (omega arith)) (le-leb b a (omega arith)))
    (λ t. eq-eqb a b (omega (arith, leb-true a b (and_l (leb a b) (leb b a) t), leb-true b a (and_r (leb a b) (leb b a) t))))

-- one more value
pub insert-t : (M a : ℕ) (f : Set) → count M (λ j. f j || eqb a j) ≡ count M f + one (ltb a M && not (f a))
unfolding count
insert-t zero a f = let x : one (ltb a 0 && not (f a)) ≡ 0 = rw (le-ltb a 0 (omega arith)) in omega arith
insert-t (suc M) a f =
    let ih = insert-t M a f in
    by_cases (ℕ_discrete a M)
    (λ e.
    let x : one (f M || eqb a M) ≡ 1 = rw (eq-eqb a M e, or-true (f M)) in
    let y : one (ltb a M && not (f a)) ≡ 0 = rw (le-ltb a M (omega arith)) in
    let z : one (ltb a (suc M) && not (f a)) ≡ one (not (f M)) = ap₂ (λ (b c : Bool). one (b && not c)) (lt-ltb a (suc M) (omega arith)) (ap f e) in
    let v = one-not (f M) in
    omega arith)
    (λ n.
    let x : one (f M || eqb a M) ≡ one (f M) = ap one (ap (λ (b : Bool). f M || b) (ne_eqb a M n) ∙ or-false (f M)) in
    let y : one (ltb a (suc M) && not (f a)) ≡ one (ltb a M && not (f a)) = rw (ltb-suc a M n) in
    omega arith)

insert_ascending : (M a : ℕ) (f : Set) (b : Bool) → count M (λ j. f j || (b && eqb a j)) ≡ count M f + one (b && (ltb a M && not (f a)))
insert_ascending M a f true = insert-t M a f
insert_ascending M a f false = let x = count-ext M (λ j. f j || false) f (λ q l. or-false (f q)) in omega arith

-- the values of l at the states of g, counted at the first state of each
unfoldable firsts : (ℕ → Bool) → (ℕ → ℕ) → ℕ → ℕ → Bool
firsts g l m p = g p && (leb (l p) m && not (some_below p (λ r. g r && eqb (l r) (l p))))

values : (n m : ℕ) (g : Set) (l : ℕ → ℕ) → count (suc m) (λ j. some_below n (λ p. g p && eqb (l p) j)) ≡ count n (firsts g l m)
unfolding some_below count firsts
values zero m g l = count-trim (suc m) 0 (λ j. false) (omega arith) (λ p a b. refl)
values (suc n) m g l =
    let x = insert_ascending (suc m) (l n) (λ j. some_below n (λ p. g p && eqb (l p) j)) (g n) in
    x ∙ ap₂ ◌+◌ (values n m g l) (ap (λ (b : Bool). one (g n && (b && not (some_below n (λ p. g p && eqb (l p) (l n)))))) (leb-suc-suc (l n) m))

module _ (A : Automaton) (S : Set) where
  -- an open state of component K
  pub open-component : (K p : ℕ) → open_of_lem A S K p ≡ true → A.component p ≡ K
  unfolding open_of_lem
  open-component K p e = eqb-true _ _ (and_l (eqb (A.component p) K) (is_open A S p) e)

  pub open-state : (K p : ℕ) → open_of_lem A S K p ≡ true → is_open A S p ≡ true
  unfolding open_of_lem
  open-state K p e = and_r (eqb (A.component p) K) (is_open A S p) e

  taken_is : (l : ℕ → ℕ) (K j : ℕ) → taken A S l K j ≡ some_below A.n (λ p. open_of_lem A S K p && eqb (l p) j)
  unfolding taken open_of_lem
  taken_is l K j = some-ext A.n _ _ (λ p m. sym (and_assoc (eqb (A.component p) K) (is_open A S p) (eqb (l p) j)))

  rank_is : (l : ℕ → ℕ) (q : ℕ) → rank_of A S l q ≡ cond (is_open A S q) (count A.n (firsts (open_of_lem A S (A.component q)) l (l q))) 0
  unfolding rank_of
  rank_is l q = ap (λ (x : ℕ). cond (is_open A S q) x 0) (count-ext (suc (l q)) _ _ (λ j m. taken_is l (A.component q) j) ∙ values A.n (l q) (open_of_lem A S (A.component q)) l)

  -- ranks are at most n
  pub rank-max : (l : ℕ → ℕ) (q : ℕ) → rank_of A S l q ≤ A.n
  rank-max l q = rw (rank_is l q) (bif (is_open A S q) (λ t. rw t (count-max A.n _)) (λ t. rw t (omega arith)))

  -- and at most the size of the component
  pub rank-comp : (l : ℕ → ℕ) (q : ℕ) → rank_of A S l q ≤ count A.n (λ p. eqb (A.component p) (A.component q))
  unfolding firsts open_of_lem
  rank-comp l q = rw (rank_is l q) (bif (is_open A S q)
      (λ t. rw t (count-sub A.n _ _ (λ p m e. and_l (eqb (A.component p) (A.component q)) (is_open A S p) (and_l (open_of_lem A S (A.component q) p) _ e))))
      (λ t. rw t (omega arith)))

  -- two ways to number the open states of a component that order them alike
  module _ (l l' : ℕ → ℕ)
      (alike : (p r : ℕ) → p < A.n → r < A.n → A.component p ≡ A.component r → is_open A S p ≡ true → is_open A S r ≡ true → leb (l p) (l r) ≡ leb (l' p) (l' r)) where
    same_class : (p r : ℕ) → p < A.n → r < A.n → A.component p ≡ A.component r → is_open A S p ≡ true → is_open A S r ≡ true → eqb (l p) (l r) ≡ eqb (l' p) (l' r)
    same_class p r m n c o t =
        eqb-leb (l p) (l r) ∙ ap₂ (λ (a b : Bool). a && b) (alike p r m n c o t) (alike r p n m (sym c) t o) ∙ sym (eqb-leb (l' p) (l' r))

    same_first : (q p : ℕ) → q < A.n → p < A.n → is_open A S q ≡ true → firsts (open_of_lem A S (A.component q)) l (l q) p ≡ firsts (open_of_lem A S (A.component q)) l' (l' q) p
    unfolding firsts
    same_first q p k m o =
        bif (open_of_lem A S (A.component q) p)
        (λ t. ap₂ (λ (a b : Bool). open_of_lem A S (A.component q) p && (a && not b)) (alike p q m k (open-component (A.component q) p t) (open-state (A.component q) p t) o)
        (some-ext p _ _ (λ r n. bif (open_of_lem A S (A.component q) r)
        (λ v. ap (λ (b : Bool). open_of_lem A S (A.component q) r && b)
        (same_class r p (omega arith) m (open-component (A.component q) r v ∙ sym (open-component (A.component q) p t)) (open-state (A.component q) r v) (open-state (A.component q) p t)))
        (λ v. rw v))))
        (λ t. rw t)

    pub rank-order : (q : ℕ) → q < A.n → rank_of A S l q ≡ rank_of A S l' q
    rank-order q k =
        rank_is l q
        ∙ bif (is_open A S q) (λ t. ap (λ (x : ℕ). cond (is_open A S q) x 0) (count-ext A.n _ _ (λ p m. same_first q p k m t))) (λ t. rw t)
        ∙ sym (rank_is l' q)

  -- ranks against counts of values
  pub taken_own : (l : ℕ → ℕ) (q : ℕ) → q < A.n → is_open A S q ≡ true → taken A S l (A.component q) (l q) ≡ true
  unfolding taken
  taken_own l q k o = some_at A.n _ q k (and_i (eq-eqb (A.component q) _ refl) (and_i o (eq-eqb (l q) _ refl)))

  pub rank-open-is : (l : ℕ → ℕ) (q : ℕ) → is_open A S q ≡ true → rank_of A S l q ≡ count (suc (l q)) (taken A S l (A.component q))
  unfolding rank_of
  rank-open-is l q o = ap (λ (b : Bool). cond b (count (suc (l q)) (taken A S l (A.component q))) 0) o

  pub rank-upto : (l : ℕ → ℕ) (q : ℕ) → q < A.n → is_open A S q ≡ true → (c : ℕ) → leb (rank_of A S l q) (count (suc c) (taken A S l (A.component q))) ≡ leb (l q) c
  rank-upto l q k o c =
      let e = rank-open-is l q o in
      by_cases (dec_le (l q) c)
      (λ h. let m = count-le (suc (l q)) (suc c) (taken A S l (A.component q)) (omega arith) in
      le-leb (rank_of A S l q) (count (suc c) (taken A S l (A.component q))) (omega arith) ∙ sym (le-leb (l q) c h))
      (λ h. let v = count-lt (l q) (suc (l q)) (taken A S l (A.component q)) (omega arith) (taken_own l q k o) in
      let m = count-le (suc c) (l q) (taken A S l (A.component q)) (omega arith) in
      lt-leb (rank_of A S l q) (count (suc c) (taken A S l (A.component q))) (omega arith) ∙ sym (lt-leb (l q) c (omega arith)))
