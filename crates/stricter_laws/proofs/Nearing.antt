-- Walks that spare components lead to accepting nodes: while a node's component is at work, each sparing step brings acceptance nearer.
use mathlib.Core.Path.{◌≡◌, refl, sym, ◌∙◌, subst}
use mathlib.Core.Bool.{false}
use mathlib.Core.List.{List}
use Prim.Native.Nat.{ℕ, zero, suc, ◌≤◌, ◌<◌}
use native.Mathlib.Omega.{arith}
use lib.ListN.{get_or}
use Rattle.sets.specs.Tests.{Set}
use Rattle.sets.proofs.Bools.{bif}
use Rattle.stricter_laws.specs.Sound.{Onto}
use Rattle.stricter_spec.specs.Rounds.{Toward}

-- P are the edges of the nodes of T, by their places
module _ (P : ℕ → ℕ → Type 0) (accepts : Set) (T : Type 0) (place core component left : T → ℕ) where
  -- an edge of the cores is one of nodes, which keeps the component until it accepts
  pub record Lift (x : T) (d : ℕ) : Type 0 where
    pub to : T
    pub edge : P (place x) (place to)
    pub onto : core to ≡ d
    pub stays : accepts (place x) ≡ false → accepts (place to) ≡ false → component to ≡ component x
    pub nears : accepts (place x) ≡ false → accepts (place to) ≡ false → left to ≤ left x

  -- one that spares K comes nearer, if K is the component
  pub record Nearer (x : T) (K d : ℕ) : Type 0 where
    pub to : T
    pub edge : P (place x) (place to)
    pub onto : core to ≡ d
    pub nears : accepts (place x) ≡ false → accepts (place to) ≡ false → component x ≡ K → left to < left x

-- E and F K are the edges of the cores; a node's place has a mark of pairs, its core one of final
module _ {P : ℕ → ℕ → Type 0} {accepts : Set} {T : Type 0} {place core component left : T → ℕ}
    {E : ℕ → ℕ → Type 0} (F : ℕ → ℕ → ℕ → Type 0) (n : ℕ) {final : List ℕ} (pairs : List ℕ)
    (sound : (K : ℕ) → K < n → (c : ℕ) → 0 < get_or final c 0 → Toward E (F K) final c)
    (known : (x : T) → component x < n)
    (marked : (x : T) → 0 < get_or final (core x) 0 → 0 < get_or pairs (place x) 0)
    (lift : (x : T) (d : ℕ) → E (core x) d → Lift P accepts T place core component left x d)
    (nearer : (x : T) (K d : ℕ) → K < n → F K (core x) d → Nearer P accepts T place core component left x K d) where
  abbrev In : T → Type 0
  In x = 0 < get_or final (core x) 0

  in-at : (x : T) (d : ℕ) → core x ≡ d → 0 < get_or final d 0 → In x
  in-at x d e = subst (λ (a : ℕ). 0 < get_or final a 0) (sym e)

  -- a step, then on if it does not arrive
  onward : (x y : T) → P (place x) (place y) → In y → (accepts (place y) ≡ false → Onto P accepts pairs (place y)) → Onto P accepts pairs (place x)
  onward x y p h go = bif (accepts (place y)) (λ t. Onto.arrives (place y) p (marked y h) t) (λ t. Onto.passes (place y) p (marked y h) (go t))

  module _ (K b : ℕ) (low : K < n) (outer : (x : T) → In x → accepts (place x) ≡ false → left x < b → Onto P accepts pairs (place x)) where
    inner : {c : ℕ} → Toward E (F K) final c → (x : T) → core x ≡ c
        → accepts (place x) ≡ false → component x ≡ K → left x ≤ b → Onto P accepts pairs (place x)
    inner (Toward.spared d f g) x e a k l =
        let s = nearer x K d low (subst (λ (z : ℕ). F K z d) (sym e) f) in
        let h = in-at s.to d s.onto g in
        onward x s.to s.edge h (λ t. let o = s.nears a t k in outer s.to h t (omega arith))
    inner (Toward.passes d f g w) x e a k l =
        let s = lift x d (subst (λ (z : ℕ). E z d) (sym e) f) in
        onward x s.to s.edge (in-at s.to d s.onto g)
        (λ t. let o = s.nears a t in inner w s.to s.onto t (s.stays a t ∙ k) (omega arith))

  outer : (b : ℕ) (x : T) → In x → accepts (place x) ≡ false → left x < b → Onto P accepts pairs (place x)
  outer zero x h a l = absurd (omega arith)
  outer (suc b) x h a l = inner (component x) b (known x) (outer b) (sound (component x) (known x) (core x) h) x refl a refl (omega arith)

  -- from any node, accepting or not: one edge, then on
  begin : (K : ℕ) → K < n → (x : T) {c : ℕ} → Toward E (F K) final c → core x ≡ c → Onto P accepts pairs (place x)
  begin K low x (Toward.spared d f g) e =
      let s = nearer x K d low (subst (λ (z : ℕ). F K z d) (sym e) f) in
      let h = in-at s.to d s.onto g in
      onward x s.to s.edge h (λ t. outer (suc (left s.to)) s.to h t (omega arith))
  begin K low x (Toward.passes d f g w) e =
      let s = lift x d (subst (λ (z : ℕ). E z d) (sym e) f) in
      let h = in-at s.to d s.onto g in
      onward x s.to s.edge h (λ t. outer (suc (left s.to)) s.to h t (omega arith))

  pub reach : (x : T) → 0 < get_or final (core x) 0 → Onto P accepts pairs (place x)
  reach x h = begin (component x) (known x) x (sound (component x) (known x) (core x) h) refl
