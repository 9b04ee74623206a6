-- What a search has met, and what can be reached.
use mathlib.Core.Path.{◌≡◌, refl, sym, subst, ◌∙◌}
use mathlib.Core.Bool.{true}
use mathlib.Core.List.{List}
use Prim.Native.Nat.{ℕ, ◌<◌}
use native.Mathlib.Omega.{arith}
use lib.ListN.{length, get_or}
use Rattle.sets.specs.Tests.{Set}
use Rattle.stricter_laws.specs.Sound.{Onto}
use Rattle.stricter_laws.specs.Forest.{met, SameIn, Reaches, Closed, Back, Explored}
use Rattle.stricter_laws.proofs.Forest.{met-lt}

pub same_start : (ms : List ℕ) → SameIn ms ms
same_start ms = record { long = refl; within = λ x l. l; kept = λ x l. l }

pub same_then : {old ms new : List ℕ} → SameIn old ms → SameIn ms new → SameIn old new
same_then p q = record { long = q.long ∙ p.long; within = λ x l. p.within x (q.within x l); kept = λ x l. q.kept x (p.kept x l) }

abbrev pub Edge : (ℕ → ℕ → ℕ → Type 0) → ℕ → ℕ → Type 0
Edge S x y = (a : ℕ) × S x a y

module _ {S : ℕ → ℕ → ℕ → Type 0} where
  pub reaches_same : {ms ns : List ℕ} → SameIn ms ns → {o x : ℕ} → Reaches S ms o x → Reaches S ns o x
  reaches_same h (Reaches.once {y} a s l) = Reaches.once a s (h.kept y l)
  reaches_same {ms = ms} {ns = ns} h (Reaches.on {y} x a r s l) = Reaches.on x a (reaches_same h r) s (h.kept y l)

  pub reaches-in : {ms : List ℕ} {o x : ℕ} → Reaches S ms o x → 0 < get_or ms x 0
  reaches-in (Reaches.once a s l) = l
  reaches-in (Reaches.on x a r s l) = l

  -- one after another
  pub reaches_then : {ms : List ℕ} {o x y : ℕ} → Reaches S ms o x → Reaches S ms x y → Reaches S ms o y
  reaches_then {o} {x} r (Reaches.once a s l) = Reaches.on x a r s l
  reaches_then {ms = ms} r (Reaches.on z a q s l) = Reaches.on z a (reaches_then r q) s l

  -- a closed set that has o has all that can be reached from it
  pub reaches-closed : {ms : List ℕ} (cs : List ℕ) → ((x : ℕ) → 0 < get_or ms x 0 → 0 < get_or cs x 0) → Closed S cs → {o x : ℕ} → 1 < get_or cs o 0 → Reaches S ms o x → 1 < get_or cs x 0
  reaches-closed cs h c {o} l (Reaches.once {y} a s k) = c o a y l s (h y k)
  reaches-closed {ms = ms} cs h c l (Reaches.on {y} x a r s k) = c x a y (reaches-closed cs h c l r) s (h y k)

  module _ {kind : ℕ → ℕ} {o : ℕ} {old new : List ℕ} (e : Explored S kind o old new) where
    pub explored-meets : {x : ℕ} → Reaches S old o x → 1 < get_or new x 0
    explored-meets (Reaches.once {y} a s l) = e.first a y s (e.same.kept y l)
    explored-meets (Reaches.on {y} x a r s l) = e.closed x a y (explored-meets r) s (e.same.kept y l)

    back-reaches : {x d : ℕ} → Back S kind o new x d → Reaches S old o x
    back-reaches (Back.seed {y} a s b f) = Reaches.once a s (e.same.within y (omega arith))
    back-reaches (Back.child {y} x a k r s b f) = Reaches.on x a (back-reaches r) s (e.same.within y (omega arith))

    pub explored-reaches : (x : ℕ) → 1 < get_or new x 0 → Reaches S old o x
    explored-reaches x l = let (d, h, b) = e.back x l in back-reaches b

    -- one that passes the test is met
    onto-met : {accepts : Set} {x : ℕ} → 1 < get_or new x 0 → Onto (Edge S) accepts old x → (y : ℕ) × (1 < get_or new y 0) × (accepts y ≡ true)
    onto-met {x} l (Onto.arrives y (a, s) k p) = (y, e.closed x a y l s (e.same.kept y k), p)
    onto-met {accepts = accepts} {x} l (Onto.passes y (a, s) k t) = onto-met (e.closed x a y l s (e.same.kept y k)) t

    pub onto-explored : {accepts : Set} → Onto (Edge S) accepts old o → (y : ℕ) × (1 < get_or new y 0) × (accepts y ≡ true)
    onto-explored {accepts = accepts} t = from-origin refl t
      where
        from-origin : {x : ℕ} → x ≡ o → Onto (Edge S) accepts old x → (y : ℕ) × (1 < get_or new y 0) × (accepts y ≡ true)
        from-origin g (Onto.arrives y (a, s) k p) = (y, e.first a y (subst (λ (z : ℕ). S z a y) g s) (e.same.kept y k), p)
        from-origin g (Onto.passes y (a, s) k t) = onto-met (e.first a y (subst (λ (z : ℕ). S z a y) g s) (e.same.kept y k)) t

    -- fewer are met than in a closed set that has the origin and a node that is not met
    pub explored-fewer : (cs : List ℕ) → length cs ≡ length old → ((x : ℕ) → 0 < get_or old x 0 → 0 < get_or cs x 0) → Closed S cs → 1 < get_or cs o 0
        → (u : ℕ) → 1 < get_or cs u 0 → (1 < get_or new u 0 → ⊥) → met new < met cs
    explored-fewer cs long h c l u m n = met-lt new cs (e.same.long ∙ sym long) (λ x k. reaches-closed cs h c l (explored-reaches x k)) u n m
