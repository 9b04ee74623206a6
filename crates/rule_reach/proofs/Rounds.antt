-- Rounds until nothing is new give the states that a state leads to.
use mathlib.Core.Path.{◌≡◌, refl, ap, sym, ◌∙◌}
use mathlib.Core.Bool.{true, ◌&&◌}
use mathlib.Core.List.{List}
use mathlib.Core.Logic.{⊎_elim, by_cases}
use Prim.Native.Nat.{ℕ, ◌^◌, ◌<◌, ◌≤◌}
use native.Mathlib.Omega.{arith}
use native.Mathlib.Decide.{dec_lt}
use borrow.Author.Tests.{eq-eqb, eqb-true, lt-ltb, ltb-true}
use lib.Dec.{ltb}
use lib.Bits.{bit_or}
use lib.ListN.{get_or}
use Rattle.sets.specs.Tests.{Set}
use Rattle.sets.specs.Masks.{bit, mask, members}
use Rattle.sets.specs.Lists.{any_of}
use Rattle.sets.proofs.Bools.{bif, clash, and_l, and_r, and_i, or_l, or_r, or_cases, iff}
use Rattle.sets.proofs.Lists.{any-in, any_out}
use Rattle.sets.proofs.Masks.{bit_mask, mask_lt}
use Rattle.sets.proofs.Bits.{bit-or, bit-none, bit_high, bit-shl-one, mask-of}
use Rattle.sets.proofs.Members.{members-in, members-out}
use Rattle.set_masks.specs.Sets.{union_over_lem}
use Rattle.set_masks.proofs.Over.{union-over-bit}
use Rattle.theory.specs.Rule.{Rule}
use Rattle.theory.specs.Components.{leads, reaches, LeadsTo, here, step}
use Rattle.theory_laws.proofs.Components.{leads-to-iff, leads-to-state, closed, reach-refl}
use Rattle.rule_reach.specs.Tables.{successors_of, LeastClosed}
use Rattle.rule_reach.proofs.Tables.{table_at, table-out}

-- ---- rounds

pub alone-bit : (q : ℕ) → bit (2 ^ q) q ≡ true
alone-bit q = bit-shl-one q q ∙ eq-eqb q q refl

pub alone-only : (q t : ℕ) → bit (2 ^ q) t ≡ true → q ≡ t
alone-only q t e = eqb-true q t (sym (bit-shl-one q t) ∙ e)

-- X holds, with each of its states, the states in that state's mask
abbrev pub Closed : List ℕ → Set → Type 0
Closed es X = (p t : ℕ) → p < 8 → t < 8 → X p ≡ true → bit (get_or es p 0) t ≡ true → X t ≡ true

module _ (es : List ℕ) (found u : ℕ) (e : u ≡ union_over_lem es (members found)) where
  -- t is in the mask of some state found
  added : (t : ℕ) → bit u t ≡ any_of (members found) (λ p. bit (get_or es p 0) t)
  added t = ap (λ (x : ℕ). bit x t) e ∙ union-over-bit es (members found) t

  -- nothing new: found is closed
  pub round-closed : bit_or found u ≡ found → Closed es (bit found)
  round-closed k p t l m x y =
      sym (ap (λ (z : ℕ). bit z t) k) ∙ bit-or found u t ∙ or_r (bit found t) (bit u t) (added t ∙ any-in _ _ _ (members-in found p l x) y)

  -- a closed set that holds found holds the round too
  pub round-least : (X : Set) → Closed es X → ((t : ℕ) → t < 8 → bit found t ≡ true → X t ≡ true) → (t : ℕ) → t < 8 → bit (bit_or found u) t ≡ true → X t ≡ true
  round-least X k h t l x =
      ⊎_elim (λ y. h t l y)
      (λ y. let s = any_out (members found) (λ p. bit (get_or es p 0) t) (sym (added t) ∙ y) in
      let m = members-out found s.0 s.1 in
      k s.0 t m.0 l (h s.0 m.0 m.1) s.2)
      (or_cases (bit found t) (bit u t) (sym (bit-or found u t) ∙ x))

  pub round_keeps : (t : ℕ) → bit found t ≡ true → bit (bit_or found u) t ≡ true
  round_keeps t x = bit-or found u t ∙ or_l (bit found t) (bit u t) x

-- ---- the least closed set is what q leads to

module _ (R : Rule) (few : R.n ≤ 8) (q : ℕ) (l : q < R.n) (m : ℕ) (small : m < 256) (h : LeastClosed (successors_of R) q m) where
  row : (p : ℕ) → p < R.n → get_or (successors_of R) p 0 ≡ mask R.n (leads R p)
  row p k = table_at R.n (λ q. mask R.n (leads R q)) p k (omega arith)

  -- a successor is a state, from a state
  from : (p t : ℕ) → p < 8 → bit (get_or (successors_of R) p 0) t ≡ true → p < R.n
  from p t k x = by_cases (dec_lt p R.n) (λ y. y) (λ y. clash x (rw (table-out R.n (λ q. mask R.n (leads R q)) p (omega arith) k) (bit-none t)))

  lead : (p t : ℕ) → p < R.n → t < R.n → bit (get_or (successors_of R) p 0) t ≡ leads R p t
  lead p t k j = rw (row p k) (bit_mask R.n (leads R p) t j)

  inner : (p t : ℕ) → p < R.n → bit (get_or (successors_of R) p 0) t ≡ true → t < R.n
  inner p t k x = by_cases (dec_lt t R.n) (λ y. y) (λ y. clash (rw (row p k) at x) (bit_high R.n (mask R.n (leads R p)) t (mask_lt R.n (leads R p)) (omega arith)))

  abbrev within : Set
  within t = ltb t R.n && reaches R q t

  only : (t : ℕ) → t < 8 → bit m t ≡ true → within t ≡ true
  only =
      h.least within (and_i (lt-ltb q R.n l) (reach-refl R q l))
      (λ p t k j x y. let a = from p t k y in let b = inner p t a y in
      and_i (lt-ltb t R.n b) (closed R q p t a b (and_r (ltb p R.n) (reaches R q p) x) (sym (lead p t a b) ∙ y)))

  all : (t : ℕ) → LeadsTo R q t → bit m t ≡ true
  all t here = h.holds
  all t (step {p = p} x k e) = let a = leads-to-state R q p l x in h.closed p t (omega arith) (omega arith) (all p x) (lead p t a k ∙ e)

  pub least-reaches : m ≡ mask R.n (reaches R q)
  least-reaches =
      mask-of 8 R.n m (reaches R q) few small
      (λ t k. iff (bit m t) (reaches R q t)
      (λ x. and_r (ltb t R.n) (reaches R q t) (only t (omega arith) x))
      (λ x. all t ((leads-to-iff R q t l k).0 x)))
      (λ t k j. bif (bit m t)
      (λ x. let y = ltb-true t R.n (and_l (ltb t R.n) (reaches R q t) (only t j x)) in absurd (omega arith))
      (λ x. x))
