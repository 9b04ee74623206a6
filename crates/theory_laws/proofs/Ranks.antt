-- The ranks of a certified sequence are fixed by its sets.
use mathlib.Core.Path.{◌≡◌, refl, sym, ◌∙◌, ap}
use mathlib.Core.Logic.{by_cases}
use mathlib.Core.Bool.{Bool, true, false, ◌&&◌}
use Prim.Native.Nat.{ℕ, zero, suc, ◌≤◌, ◌<◌}
use native.Mathlib.Omega.{arith}
use native.Mathlib.Decide.{dec_le}
use native.Mathlib.Nat.{lt_of_le_of_lt}
use lib.Dec.{eqb, leb}
use borrow.Author.Tests.{leb-true, leb-false, le-leb, lt-leb, eqb-true, eqb-false, eq-eqb}
use Rattle.sets.specs.Tests.{Set, count}
use Rattle.sets.proofs.Bools.{bif}
use Rattle.sets.proofs.Tests.{some-ext, count-ext}
use Rattle.theory.specs.Automaton.{Automaton}
use Rattle.theory.specs.Layered.{Layered}
use Rattle.theory.specs.Core.{is_open, settled, settled_up_to}
use Rattle.theory.specs.CoreComputed.{level_of, taken, rank_of}
use Rattle.theory.specs.Rule.{satisfies}
use Rattle.theory_laws.proofs.Certified.{discharged, Certified, Backed}
use Rattle.theory_laws.proofs.Pursuit.{discharged-shut}
use Rattle.theory_laws.proofs.Levels.{level-test}
use Rattle.theory_laws.proofs.Classes.{rank-open-is, rank-upto}
use Rattle.theory_laws.proofs.Cores.{rank-open-pos, rank-shut-is}
pub use Rattle.theory_laws.proofs.Settled.{settled-ext, settled-mono}

-- two numbers that no test up to c tells apart
abbrev Agree : ℕ → ℕ → ℕ → Type 0
Agree a b c = (j : ℕ) → j ≤ c → leb a j ≡ leb b j

agree-eq : (a b c : ℕ) → Agree a b c → a ≤ c → a ≡ b
agree-eq a b c g h =
    let x = leb-true b a (sym (g a h) ∙ le-leb a a (omega arith)) in
    omega (arith, leb-true a b (g b (omega arith) ∙ le-leb b b (omega arith)))

agree-eqb : (a b c : ℕ) → Agree a b c → (j : ℕ) → j ≤ c → eqb a j ≡ eqb b j
agree-eqb a b c g j h =
    bif (eqb a j)
    (λ t. let x = eqb-true a j t in let y = agree-eq a b c g (omega arith) in t ∙ sym (eq-eqb b j (omega arith)))
    (λ t. bif (eqb b j)
    (λ k. let x = eqb-true b j k in let y = agree-eq b a c (λ i l. sym (g i l)) (omega arith) in absurd (eqb-false a j t (omega arith)))
    (λ k. t ∙ sym k))

agree-over : (a b c : ℕ) → Agree a b c → c < a → c < b
agree-over a b c g h = leb-false b c (sym (g c (omega arith)) ∙ lt-leb a c h)

-- the level of p at i
abbrev pub lev_at : (A : Automaton) (B : ℕ) (w : ℕ → ℕ) (S : ℕ → Set) (r : ℕ → ℕ → ℕ) → ℕ → ℕ → ℕ
lev_at A B w S r i p = level_of A B (S (suc i)) (r (suc i)) p (A.entry p (w i))

module _ (A : Automaton) (H : Layered A) (B : ℕ) (w : ℕ → ℕ) (S : ℕ → Set) (exact : (i q : ℕ) → q < A.n → S i q ≡ satisfies A.n (S (suc i)) (A.entry q (w i))) where
  module _ (r : ℕ → ℕ → ℕ) (bound : (i q : ℕ) → q < A.n → r i q ≤ B) where
    -- an open state's level is at most c exactly if its test passes at c
    pub lev-test : (i q : ℕ) → q < A.n → is_open A (S i) q ≡ true → (c : ℕ) → leb (lev_at A B w S r i q) c ≡ settled_up_to A (S (suc i)) (r (suc i)) q (A.entry q (w i)) c
    lev-test i q l o c = level-test A H (w i) (S i) (S (suc i)) (exact i) (r (suc i)) B (bound (suc i)) q l o c

    -- a state's rank, read as a count
    module _ (ranked : (i q : ℕ) → q < A.n → r i q ≡ rank_of A (S i) (lev_at A B w S r i) q) where
      pub rank-open : (i q : ℕ) → q < A.n → is_open A (S i) q ≡ true → r i q ≡ count (suc (lev_at A B w S r i q)) (taken A (S i) (lev_at A B w S r i) (A.component q))
      rank-open i q l o = ranked i q l ∙ rank-open-is A (S i) (lev_at A B w S r i) q o

      pub rank-pos : (i q : ℕ) → q < A.n → is_open A (S i) q ≡ true → 0 < r i q
      rank-pos i q l o = omega (arith, ranked i q l, rank-open-pos A (S i) (lev_at A B w S r i) q l o)

      pub rank-shut : (i q : ℕ) → q < A.n → is_open A (S i) q ≡ false → r i q ≡ 0
      rank-shut i q l o = ranked i q l ∙ rank-shut-is A (S i) (lev_at A B w S r i) q o

      -- the rank is at most the count of levels up to c exactly if the level is at most c
      pub rank-leb : (i q : ℕ) → q < A.n → is_open A (S i) q ≡ true → (c : ℕ) → leb (r i q) (count (suc c) (taken A (S i) (lev_at A B w S r i) (A.component q))) ≡ leb (lev_at A B w S r i q) c
      rank-leb i q l o c =
          ap (λ (x : ℕ). leb x (count (suc c) (taken A (S i) (lev_at A B w S r i) (A.component q)))) (ranked i q l) ∙ rank-upto A (S i) (lev_at A B w S r i) q l o c

  -- two ways to rank the same sets
  module _ (fin : (i q : ℕ) → q < A.n → is_open A (S i) q ≡ true → (d : ℕ) × (discharged A suc w S i d q ≡ true))
      (r1 r2 : ℕ → ℕ → ℕ) (b1 : (i q : ℕ) → q < A.n → r1 i q ≤ B) (b2 : (i q : ℕ) → q < A.n → r2 i q ≤ B)
      (k1 : (i q : ℕ) → q < A.n → r1 i q ≡ rank_of A (S i) (lev_at A B w S r1 i) q) (k2 : (i q : ℕ) → q < A.n → r2 i q ≡ rank_of A (S i) (lev_at A B w S r2 i) q) where
    -- up to c, the ranks of component K's open states at i are the same, and those of rank at most c are discharged within d
    record Upto (i d K : ℕ) : Type 0 where
      c : ℕ
      reach : (q : ℕ) → q < A.n → A.component q ≡ K → is_open A (S i) q ≡ true → discharged A suc w S i d q ≡ leb (r1 i q) c
      agree : (q : ℕ) → q < A.n → A.component q ≡ K → is_open A (S i) q ≡ true → Agree (r1 i q) (r2 i q) c

    upto-0 : (i K : ℕ) → Upto i 0 K
    unfolding discharged
    upto-0 i K = record {
      c = 0;
      reach = λ q l k o. sym (lt-leb (r1 i q) 0 (rank-pos r1 b1 k1 i q l o));
      agree = λ q l k o j h. lt-leb (r1 i q) j (lt_of_le_of_lt h (rank-pos r1 b1 k1 i q l o)) ∙ sym (lt-leb (r2 i q) j (lt_of_le_of_lt h (rank-pos r2 b2 k2 i q l o)));
    }

    module _ (d i K : ℕ) (u : Upto (suc i) d K) where
      -- the tests at i agree up to c, so the levels do
      tests : (q : ℕ) → q < A.n → A.component q ≡ K → is_open A (S i) q ≡ true → (j : ℕ) → j ≤ u.c
          → settled_up_to A (S (suc i)) (r1 (suc i)) q (A.entry q (w i)) j ≡ settled_up_to A (S (suc i)) (r2 (suc i)) q (A.entry q (w i)) j
      unfolding settled_up_to
      tests q l k o j h =
          settled-ext A _ _ _ q _ (λ p m s. bif (is_open A (S (suc i)) p)
          (λ t. ap (λ (b : Bool). is_open A (S (suc i)) p && b) (u.agree p m (s ∙ k) t j h))
          (λ t. rw t))

      levels : (q : ℕ) → q < A.n → A.component q ≡ K → is_open A (S i) q ≡ true → Agree (lev_at A B w S r1 i q) (lev_at A B w S r2 i q) u.c
      levels q l k o j h = lev-test r1 b1 i q l o j ∙ tests q l k o j h ∙ sym (lev-test r2 b2 i q l o j)

      -- the same levels are taken, up to c
      takens : (j : ℕ) → j ≤ u.c → taken A (S i) (lev_at A B w S r1 i) K j ≡ taken A (S i) (lev_at A B w S r2 i) K j
      unfolding taken
      takens j h =
          some-ext A.n _ _ (λ p m. bif (eqb (A.component p) K)
          (λ s. bif (is_open A (S i) p)
          (λ o. ap (λ (b : Bool). eqb (A.component p) K && (is_open A (S i) p && b)) (agree-eqb _ _ u.c (levels p m (eqb-true _ _ s) o) j h))
          (λ o. rw (s, o)))
          (λ s. rw s))

      -- what is discharged one step earlier
      reach' : (q : ℕ) → q < A.n → A.component q ≡ K → is_open A (S i) q ≡ true → discharged A suc w S i (suc d) q ≡ leb (lev_at A B w S r1 i q) u.c
      unfolding discharged settled_up_to
      reach' q l k o =
          ap (λ (b : Bool). b && settled A (S (suc i)) (discharged A suc w S (suc i) d) q (A.entry q (w i))) o
          ∙ settled-ext A _ _ _ q _ (λ p m s. bif (is_open A (S (suc i)) p)
          (λ t. u.reach p m (s ∙ k) t ∙ sym (ap (λ (b : Bool). b && leb (r1 (suc i) p) u.c) t))
          (λ t. discharged-shut A suc w S (suc i) d p t ∙ sym (ap (λ (b : Bool). b && leb (r1 (suc i) p) u.c) t)))
          ∙ sym (lev-test r1 b1 i q l o u.c)

      leb1 : (q : ℕ) → q < A.n → A.component q ≡ K → is_open A (S i) q ≡ true
          → leb (r1 i q) (count (suc u.c) (taken A (S i) (lev_at A B w S r1 i) K)) ≡ leb (lev_at A B w S r1 i q) u.c
      leb1 q l k o = rw k at (rank-leb r1 b1 k1 i q l o u.c)

      leb2 : (q : ℕ) → q < A.n → A.component q ≡ K → is_open A (S i) q ≡ true
          → leb (r2 i q) (count (suc u.c) (taken A (S i) (lev_at A B w S r1 i) K)) ≡ leb (lev_at A B w S r2 i q) u.c
      leb2 q l k o = rw (count-ext (suc u.c) _ _ (λ j h. takens j (omega arith))) (rw k at (rank-leb r2 b2 k2 i q l o u.c))

      same : (q : ℕ) → q < A.n → A.component q ≡ K → is_open A (S i) q ≡ true → lev_at A B w S r1 i q ≤ u.c → r1 i q ≡ r2 i q
      same q l k o h =
          let e = agree-eq _ _ u.c (levels q l k o) h in
          rank-open r1 b1 k1 i q l o
          ∙ count-ext (suc (lev_at A B w S r1 i q)) _ _ (λ j m. rw k (takens j (omega arith)))
          ∙ ap (λ (x : ℕ). count (suc x) (taken A (S i) (lev_at A B w S r2 i) (A.component q))) e
          ∙ sym (rank-open r2 b2 k2 i q l o)

      upto-suc : Upto i (suc d) K
      upto-suc = record {
        c = count (suc u.c) (taken A (S i) (lev_at A B w S r1 i) K);
        reach = λ q l k o. reach' q l k o ∙ sym (leb1 q l k o);
        agree = λ q l k o j h. by_cases (dec_le (lev_at A B w S r1 i q) u.c)
            (λ m. ap (λ (x : ℕ). leb x j) (same q l k o m))
            (λ m. let x = agree-over _ _ u.c (levels q l k o) (omega arith) in
            let y1 = leb-false (r1 i q) (count (suc u.c) (taken A (S i) (lev_at A B w S r1 i) K)) (leb1 q l k o ∙ lt-leb (lev_at A B w S r1 i q) u.c (omega arith)) in
            let y2 = leb-false (r2 i q) (count (suc u.c) (taken A (S i) (lev_at A B w S r1 i) K)) (leb2 q l k o ∙ lt-leb (lev_at A B w S r2 i q) u.c (omega arith)) in
            lt-leb (r1 i q) j (omega arith) ∙ sym (lt-leb (r2 i q) j (omega arith)));
      }

    upto : (d i K : ℕ) → Upto i d K
    upto zero i K = upto-0 i K
    upto (suc d) i K = upto-suc d i K (upto d (suc i) K)

    same-ranks : (i q : ℕ) → q < A.n → r1 i q ≡ r2 i q
    same-ranks i q l =
        bif (is_open A (S i) q)
        (λ o. let f = fin i q l o in
        let u = upto f.0 i (A.component q) in
        agree-eq _ _ u.c (u.agree q l refl o) (leb-true _ _ (sym (u.reach q l refl o) ∙ f.1)))
        (λ o. rank-shut r1 b1 k1 i q l o ∙ sym (rank-shut r2 b2 k2 i q l o))

pub ranks-unique : (A : Automaton) → Layered A → (B : ℕ) (w : ℕ → ℕ) (S : ℕ → Set) → Certified A suc w S → (r1 r2 : ℕ → ℕ → ℕ)
    → Backed A B w S r1 → Backed A B w S r2 → (i q : ℕ) → q < A.n → r1 i q ≡ r2 i q
ranks-unique A H B w S C r1 r2 k1 k2 = same-ranks A H B w S C.exact C.finite r1 r2 k1.bound k2.bound k1.ranked k2.ranked
