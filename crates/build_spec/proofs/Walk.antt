-- A walk over all vectors within the largest ranks.
use mathlib.Core.Path.{◌≡◌}
use mathlib.Core.Logic.{by_cases}
use mathlib.Core.Bool.{Bool, false}
use mathlib.Core.List.{List}
use Prim.Native.Nat.{ℕ, ◌-◌, ◌<◌}
use native.Mathlib.Omega.{arith}
use native.Mathlib.Decide.{dec_lt}
use Rattle.build_cores.specs.Vectors.{Within, next_of}
use Rattle.build_cores.proofs.Next.{more, least, within-next}
use Rattle.build_cores.proofs.Vectors.{within-le}
use Rattle.build_spec.specs.Growth.{Grown}
use Rattle.build_spec.proofs.Appended.{appended-as}
use Rattle.build_spec.proofs.Growth.{Upto, upto_next}

-- fewer vectors are left
pub walk-less : (caps t : ℕ) → Within 8 t caps → (t ≡ caps → ⊥) → caps - next_of 8 t caps < caps - t
walk-less caps t w o = omega (arith, more 8 t caps w o, within-le 8 (next_of 8 t caps) caps (within-next 8 t caps w o))

module _ (caps : ℕ) {G : ℕ → ℕ → Type 0} (inside : (v y : ℕ) → G v y → Within 8 v caps) {F : ℕ → Type 0} {xs : List ℕ} {n t : ℕ} (within : Within 8 t caps)
    {ys zs hs ls heads last : List ℕ} {m u : ℕ} {full full' : Bool} (g : Grown (Upto G t) F xs n ys hs ls m full) (e : full ≡ false) {U : ℕ → Type 0} (h : Grown U F ys m zs heads last u full')
    (v : (y : ℕ) → G t y → U y) where
  -- on to the next vector
  pub walk-next : Grown (Upto G (next_of 8 t caps)) F xs n zs heads last u full'
  walk-next = appended-as (upto_next g e h v)
      (λ f y k. (k.0, by_cases (dec_lt t k.0) (λ l. absurd (let z = least 8 t caps k.0 within (inside k.0 y k.2) l in omega (arith, k.1))) (λ l. omega arith), k.2))
      (λ y k. k)

  -- the last vector was visited
  pub walk_end : t ≡ caps → Grown (λ y. (v : ℕ) × G v y) F xs n zs heads last u full'
  walk_end o = appended-as (upto_next g e h v) (λ f y k. (k.0, omega (arith, within-le 8 k.0 caps (inside k.0 y k.1)), k.1)) (λ y k. k)
