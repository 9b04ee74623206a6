-- 000: "all its ω-branches visit accepting vertices infinitely often": every branch of a run graph that leaves the components of one kind is again and again
-- at a state of the other.
use mathlib.Core.Path.{◌≡◌, refl, ◌∙◌}
use mathlib.Core.Logic.{◌⊎◌, inl, inr, ⊎_elim}
use mathlib.Core.Bool.{Bool, true, false, not}
use Prim.Native.Nat.{ℕ, zero, suc, ◌+◌, ◌≤◌, ◌<◌}
use native.Mathlib.Omega.{arith}
use native.Mathlib.Nat.{add-zero, add-suc}
use Rattle.theory.specs.Automaton.{Automaton}
use Rattle.theory.specs.Layered.{Layered}
use Rattle.theory.specs.Sequence.{Reaches, here, on, Leaves, to_each, to_members, AcceptsAt, RejectsAt}

pub of_kinds : (k b : Bool) → (b ≡ k) ⊎ (b ≡ not k)
of_kinds true true = inl refl
of_kinds true false = inr refl
of_kinds false true = inr refl
of_kinds false false = inl refl

-- b k is the state of the branch k steps after step x, where it begins at state a
pub record Branch (E : ℕ → ℕ → ℕ → Type 0) (a x : ℕ) (b : ℕ → ℕ) : Type 0 where
  pub begins : b 0 ≡ a
  pub edges : (k : ℕ) → E (b k) (x + k) (b (suc k))

-- k is the kind of the components that are left, true for the accepting ones
module _ (A : Automaton) (H : Layered A) (k : Bool) (E : ℕ → ℕ → ℕ → Type 0) (a x : ℕ) (start : a < A.n)
    (falls : (q i r : ℕ) → Reaches E a x q i → q < A.n → E q i r → (r < A.n) × ((A.component r ≡ A.component q) ⊎ (H.height r < H.height q)))
    (leaves : (q i : ℕ) → Reaches E a x q i → A.accepting q ≡ k → Leaves E A q i)
    (b : ℕ → ℕ) (B : Branch E a x b) where
  along : (m d : ℕ) → Reaches E (b m) (x + m) (b (m + d)) (x + m + d)
  along m zero = rw (add-zero m, add-zero (x + m)) here
  along m (suc d) =
      let s : x + (m + d) ≡ x + m + d = omega arith in
      rw (add-suc m d) (on (b (suc (m + d))) (x + m + suc d) (along m d) (rw s at (B.edges (m + d))) (omega arith))

  reached : (m : ℕ) → (Reaches E a x (b m) (x + m)) × (b m < A.n)
  reached zero = rw (B.begins, add-zero x) (here, start)
  reached (suc m) =
      let (c, l) = reached m in
      (on (b (suc m)) (x + suc m) c (B.edges m) (omega arith), (falls (b m) (x + m) (b (suc m)) c l (B.edges m)).0)

  lower : (m d : ℕ) → (A.component (b (m + d)) ≡ A.component (b m)) ⊎ (H.height (b (m + d)) < H.height (b m))
  lower m zero = rw (add-zero m) (inl refl)
  lower m (suc d) =
      let (c, l) = reached (m + d) in
      let (l2, f) = falls (b (m + d)) (x + (m + d)) (b (suc (m + d))) c l (B.edges (m + d)) in
      let (c0, l0) = reached m in
      rw (add-suc m d)
      (⊎_elim
      (λ same. ⊎_elim (λ s. inl (s ∙ same)) (λ lt. let e = H.level (b (m + d)) (b m) l l0 same in inr (omega arith)) f)
      (λ lt. ⊎_elim (λ s. let e = H.level (b (suc (m + d))) (b (m + d)) l2 l s in inr (omega arith)) (λ m2. inr (omega arith)) f)
      (lower m d))

  visits-in : (h m : ℕ) → H.height (b m) < h → (j : ℕ) × (m ≤ j) × (A.accepting (b j) ≡ not k)
  visits-in zero m l = absurd (omega arith)
  visits-in (suc h) m l =
      ⊎_elim
      (λ t. let L = leaves (b m) (x + m) (reached m).0 t in
      ⊎_elim
      (λ same. absurd (L.left (b (m + L.steps)) (x + m + L.steps) (along m L.steps) (omega arith) same))
      (λ lt. let (j, f, e) = visits-in h (m + L.steps) (omega arith) in (j, omega (arith, f), e))
      (lower m L.steps))
      (λ t. (m, omega arith, t))
      (of_kinds k (A.accepting (b m)))

  pub visits-again : (m : ℕ) → (j : ℕ) × (m < j) × (A.accepting (b j) ≡ not k)
  visits-again m = let (j, l, e) = visits-in (suc (H.height (b (suc m)))) (suc m) (omega arith) in (j, l, e)

-- every branch of a plan that accepts is again and again at an accepting state
pub branch-accepts : (A : Automaton) → Layered A → (w : ℕ → ℕ) (a x : ℕ) → a < A.n → (P : AcceptsAt A w a x) (b : ℕ → ℕ) → Branch (to_each A w P.pick) a x b
    → (m : ℕ) → (j : ℕ) × (m < j) × (A.accepting (b j) ≡ true)
branch-accepts A H w a x l P =
    visits-again A H false (to_each A w P.pick) a x l (λ q i r c m e. (e.0, H.down q (w i) (P.pick q i) r m e.0 (P.valid q i c) e.1)) P.leaves

-- and of a plan that rejects, at a rejecting state
pub branch-rejects : (A : Automaton) → Layered A → (w : ℕ → ℕ) (a x : ℕ) → a < A.n → (R : RejectsAt A w a x) (b : ℕ → ℕ) → Branch (to_members A w R.member) a x b
    → (m : ℕ) → (j : ℕ) × (m < j) × (A.accepting (b j) ≡ false)
branch-rejects A H w a x l R =
    visits-again A H true (to_members A w R.member) a x l
    (λ q i r c m e. let (d, k, s) = e in let (low, t) = R.valid q i c d k in (rw s low, rw s (H.down q (w i) d (R.member q i d) m low k t)))
    R.leaves
