-- The clause of an entry that a set contains.
use mathlib.Core.Path.{◌≡◌, refl, sym, ◌∙◌}
use mathlib.Core.Bool.{true}
use mathlib.Core.List.{List, [], ◌∷◌, Memᴰ}
use Prim.Native.Nat.{ℕ}
use Rattle.sets.specs.Tests.{Set}
use Rattle.sets.specs.Masks.{bit, inside}
use Rattle.sets.specs.Lists.{any_of}
use Rattle.sets.proofs.Lists.{any-cons, any_out, any-in}
use Rattle.sets.proofs.Members.{inside-at, inside-all}
use Rattle.theory.specs.Rule.{satisfies}

satisfies-any : (n : ℕ) (X : Set) (cs : List ℕ) → satisfies n X cs ≡ any_of cs (inside n X)
unfolding satisfies any_of
satisfies-any n X [] = refl
satisfies-any n X (c ∷ cs) = rw (satisfies-any n X cs) (sym (any-cons (inside n X) c cs))

pub met-out : (n : ℕ) (X : Set) (cs : List ℕ) → satisfies n X cs ≡ true → (c : ℕ) × Memᴰ c cs × (inside n X c ≡ true)
met-out n X cs e = any_out cs (inside n X) (sym (satisfies-any n X cs) ∙ e)

pub met-in : (n : ℕ) (X : Set) (cs : List ℕ) (c : ℕ) → Memᴰ c cs → inside n X c ≡ true → satisfies n X cs ≡ true
met-in n X cs c m e = satisfies-any n X cs ∙ any-in cs (inside n X) c m e

-- a set that contains a clause contains what the clause, as a set, contains
pub inside-trans : (n : ℕ) (X : Set) (c d : ℕ) → inside n X c ≡ true → inside n (bit c) d ≡ true → inside n X d ≡ true
inside-trans n X c d e h = inside-all n X d (λ q l b. inside-at n X c e q l (inside-at n (bit c) d h q l b))
