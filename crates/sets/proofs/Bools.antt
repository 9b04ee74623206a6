-- Laws of Booleans.
use mathlib.Core.Path.{◌≡◌, refl, sym, ◌∙◌, ap}
use mathlib.Core.Logic.{◌⊎◌, inl, inr}
use mathlib.Core.Bool.{Bool, true, false, ◌&&◌, ◌||◌, not, beq, true≢false, false≢true, or-true}
use borrow.Author.Tests.{not-true, not-false}
use Rattle.sets.specs.Masks.{exclusive}

-- a test either way, with its equation
pub bif {ℓ} : {C : Type ℓ} (b : Bool) → (b ≡ true → C) → (b ≡ false → C) → C
bif true f g = f refl
bif false f g = g refl

pub clash {ℓ} : {C : Type ℓ} {b : Bool} → b ≡ true → b ≡ false → C
clash p q = absurd (true≢false (sym p ∙ q))

pub and_l : (a b : Bool) → a && b ≡ true → a ≡ true
and_l true b e = refl
and_l false b e = e

pub and_r : (a b : Bool) → a && b ≡ true → b ≡ true
and_r true b e = e
and_r false b e = absurd (false≢true e)

pub and_i : {a b : Bool} → a ≡ true → b ≡ true → a && b ≡ true
and_i p q = rw (p, q)

pub or_cases : (a b : Bool) → a || b ≡ true → (a ≡ true) ⊎ (b ≡ true)
or_cases true b e = inl refl
or_cases false b e = inr e

pub or-fl : (a b : Bool) → a || b ≡ false → a ≡ false
or-fl true b e = e
or-fl false b e = refl

pub or-fr : (a b : Bool) → a || b ≡ false → b ≡ false
or-fr true b e = absurd (true≢false e)
or-fr false b e = e

pub or-rt : (a b : Bool) → a || b ≡ true → a ≡ false → b ≡ true
or-rt true b e k = clash refl k
or-rt false b e k = e

pub or_tf : (a b : Bool) → not a || b ≡ true → a ≡ true → b ≡ true
or_tf true b e k = e
or_tf false b e k = clash k refl

pub not_t : (a : Bool) → not a ≡ true → a ≡ false
not_t = not-true

pub not_f : (a : Bool) → not a ≡ false → a ≡ true
not_f = not-false

pub and-fl : (a b : Bool) → a && b ≡ false → b ≡ true → a ≡ false
and-fl true b e k = clash k e
and-fl false b e k = refl

pub or_l : (a b : Bool) → a ≡ true → a || b ≡ true
or_l a b p = rw p

pub or_r : (a b : Bool) → b ≡ true → a || b ≡ true
or_r a b p = rw (p, or-true a)

-- two tests that imply each other are equal
pub iff : (a b : Bool) → (a ≡ true → b ≡ true) → (b ≡ true → a ≡ true) → a ≡ b
iff a b f g = bif a (λ t. t ∙ sym (f t)) (λ t. bif b (λ v. clash (g v) t) (λ v. t ∙ sym v))

-- ---- the test for equality

pub beq-true : (a b : Bool) → beq a b ≡ true → a ≡ b
beq-true true true e = refl
beq-true true false e = absurd (false≢true e)
beq-true false true e = absurd (false≢true e)
beq-true false false e = refl

pub beq_same : (a b : Bool) → a ≡ b → beq a b ≡ true
beq_same true b e = ap (beq true) (sym e)
beq_same false b e = ap (beq false) (sym e)

-- ---- exactly one of the two

pub xor_comm : (a b : Bool) → exclusive a b ≡ exclusive b a
xor_comm true true = refl
xor_comm true false = refl
xor_comm false true = refl
xor_comm false false = refl

pub xor-twice : (a b : Bool) → exclusive a (exclusive a b) ≡ b
xor-twice true true = refl
xor-twice true false = refl
xor-twice false b = refl
