-- A walk along a chain meets every place of its bucket.
use mathlib.Core.Path.{◌≡◌}
use mathlib.Core.Logic.{◌⊎◌, inl, inr, ⊎_elim, by_cases}
use mathlib.Core.List.{List}
use Prim.Native.Nat.{ℕ, ◌≤◌, ◌<◌}
use native.Mathlib.Omega.{arith}
use native.Mathlib.Decide.{dec_lt, ℕ_discrete}
use Rattle.build_spec.specs.Chains.{link_at, bucket_at, Begins}

-- a walk through the bucket b of the first n elements has come to place i: the places of the bucket from `done` on are behind it
pub record Ahead (xs : List ℕ) (n b i done : ℕ) : Type 0 where
  pub some : 0 < done
  pub fits : done ≤ n
  pub begins : Begins xs done b i

-- and Made is what was made of them
pub record Walked (Made : ℕ → Type 0) (xs : List ℕ) (n b i : ℕ) : Type 0 where
  pub done : ℕ
  pub ahead : Ahead xs n b i done
  pub made : Made done

-- Q holds at the places of the bucket from d on
abbrev pub Met : (ℕ → Type 0) → List ℕ → ℕ → ℕ → ℕ → Type 0
Met Q xs n b d = (p : ℕ) → d ≤ p → p < n → bucket_at xs p ≡ b → Q p

module _ {xs : List ℕ} {n b i : ℕ} where
  pub walk_from : {Made : ℕ → Type 0} → 0 < n → Begins xs n b i → Made n → Walked Made xs n b i
  walk_from h g m = record { done = n; ahead = record { some = h; fits = omega arith; begins = g }; made = m }

  module _ {Made : ℕ → Type 0} (w : Walked Made xs n b i) where
    pub walk-below : i < w.done
    walk-below = omega (arith, w.ahead.begins.inside, w.ahead.some)

    pub walk_inside : i < n
    walk_inside = omega (arith, walk-below, w.ahead.fits)

    -- a place of the bucket above i is behind
    pub walk-behind : (p : ℕ) → i < p → bucket_at xs p ≡ b → w.done ≤ p
    walk-behind p h e = by_cases (dec_lt p w.done) (λ k. absurd (omega (arith, w.ahead.begins.above p k e))) (λ k. omega arith)

    -- what is of a place of the bucket from i on: of one behind, or of i
    pub walk-part : (D : ℕ → ℕ → Type 0) → ((p y : ℕ) → D p y → bucket_at xs p ≡ b) → (p y : ℕ) → i ≤ p → p < n → D p y
        → ((q : ℕ) × (w.done ≤ q) × (q < n) × D q y) ⊎ D i y
    walk-part D own p y h l d = by_cases (ℕ_discrete p i) (λ e. inr (rw e at d)) (λ e. inl (p, walk-behind p (omega arith) (own p y d), l, d))

    module _ (links : (p : ℕ) → 0 < p → p < n → Begins xs p (bucket_at xs p) (link_at xs p)) (o : i ≡ 0 → ⊥) where
      pub walk-less : link_at xs i < i
      walk-less = omega (arith, (links i (omega arith) walk_inside).inside)

      -- on to the link, with what is made of place i too
      pub walk-next : {More : ℕ → Type 0} → More i → Walked More xs n b (link_at xs i)
      walk-next m = let own : bucket_at xs i ≡ b = ⊎_elim (λ z. absurd (o z)) (λ e. e) w.ahead.begins.own in
          record { done = i; ahead = record { some = omega arith; fits = omega (arith, walk_inside); begins = rw own at (links i (omega arith) walk_inside) }; made = m }

  module _ {Q : ℕ → Type 0} (w : Walked (Met Q xs n b) xs n b i) where
    -- the place itself done
    pub walk-met : Q i → Met Q xs n b i
    walk-met q p h l e = by_cases (ℕ_discrete p i) (λ d. rw d q) (λ d. w.made p (walk-behind w p (omega arith) e) l e)

    -- at place 0
    pub walk_end : i ≡ 0 → Q i → (p : ℕ) → p < n → bucket_at xs p ≡ b → Q p
    walk_end z q p l e = walk-met q p (omega arith) l e
