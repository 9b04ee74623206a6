-- Paths of run graphs: over no sequence are there both a graph that accepts and one that rejects.
use mathlib.Core.Path.{◌≡◌, refl, ◌∙◌}
use mathlib.Core.Logic.{◌⊎◌, ⊎_elim}
use Prim.Native.Nat.{ℕ, zero, suc, ◌+◌, ◌≤◌, ◌<◌}
use native.Mathlib.Omega.{arith}
use Rattle.sets.proofs.Bools.{bif}
use Rattle.theory.specs.Automaton.{Automaton}
use Rattle.theory.specs.Layered.{Layered}
use Rattle.theory.specs.Sequence.{Reaches, here, on, Leaves, to_each, to_members, AcceptsAt, RejectsAt}

-- a path after a path
pub path-on : (E : ℕ → ℕ → ℕ → Type 0) {a x q i r j : ℕ} → Reaches E a x q i → Reaches E q i r j → Reaches E a x r j
path-on E p here = p
path-on E p (on r j c e s) = on r j (path-on E p c) e s

-- steps rise along a path
pub path-later : (E : ℕ → ℕ → ℕ → Type 0) {a x q i : ℕ} → Reaches E a x q i → x ≤ i
path-later E here = omega arith
path-later E (on r j c e s) = let l = path-later E c in omega (arith, l, s)

module _ (A : Automaton) (H : Layered A) (w : ℕ → ℕ) (a x : ℕ) (P : AcceptsAt A w a x) (R : RejectsAt A w a x) where
  -- reached in both graphs
  record Both (q i : ℕ) : Type 0 where
    below : q < A.n
    one : Reaches (to_each A w P.pick) a x q i
    two : Reaches (to_members A w R.member) a x q i

  -- the member of the clause
  record Next (q i : ℕ) : Type 0 where
    to : ℕ
    both : Both to (suc i)
    picked : to_each A w P.pick q i to
    named : to_members A w R.member q i to
    falls : (A.component to ≡ A.component q) ⊎ (H.height to < H.height q)

  next : (q i : ℕ) → Both q i → Next q i
  next q i b =
      let m = P.valid q i b.one in
      let (l, t) = R.valid q i b.two (P.pick q i) m in
      let r = R.member q i (P.pick q i) in
      record {
        to = r;
        both = record { below = l; one = on r (suc i) b.one (l, t) refl; two = on r (suc i) b.two (P.pick q i, m, refl) refl };
        picked = (l, t);
        named = (P.pick q i, m, refl);
        falls = H.down q (w i) (P.pick q i) r b.below l m t;
      }

  -- along a graph that leaves the component of q at i: lower states are done
  module _ (h : ℕ) (ih : (q i : ℕ) → H.height q < h → Both q i → ⊥) (E : ℕ → ℕ → ℕ → Type 0) (edge : (q i : ℕ) (b : Both q i) → E q i (next q i b).to) (q i : ℕ) (L : Leaves E A q i) where
    walk : (d p j : ℕ) → H.height p < suc h → Both p j → Reaches E q i p j → A.component p ≡ A.component q → i + L.steps ≤ j + d → ⊥
    walk zero p j l b c s e = L.left p j c (omega arith) s
    walk (suc d) p j l b c s e =
        let n = next p j b in
        ⊎_elim
        (λ k. let f = H.level n.to p n.both.below b.below k in
        walk d n.to (suc j) (omega arith) n.both (on n.to (suc j) c (edge p j b) refl) (k ∙ s) (omega arith))
        (λ k. ih n.to (suc j) (omega arith) n.both)
        n.falls

  hunt : (h q i : ℕ) → H.height q < h → Both q i → ⊥
  hunt zero q i l b = omega arith
  hunt (suc h) q i l b =
      bif (A.accepting q)
      (λ t. let L = R.leaves q i b.two t in walk h (hunt h) (to_members A w R.member) (λ p j c. (next p j c).named) q i L L.steps q i l b here refl (omega arith))
      (λ t. let L = P.leaves q i b.one t in walk h (hunt h) (to_each A w P.pick) (λ p j c. (next p j c).picked) q i L L.steps q i l b here refl (omega arith))

  pub never_both : a < A.n → ⊥
  never_both l = hunt (suc (H.height a)) a x (omega arith) (record { below = l; one = here; two = here })
