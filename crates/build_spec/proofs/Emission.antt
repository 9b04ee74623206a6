-- What is written: nothing, one number, one thing after the other, things up to a count.
use mathlib.Core.Path.{◌≡◌, sym, ◌∙◌}
use mathlib.Core.Logic.{◌⊎◌, inl, ⊎_elim, by_cases}
use mathlib.Core.Bool.{Bool, true, false, true≢false}
use mathlib.Core.List.{List}
use Prim.Native.Nat.{ℕ, ◌+◌, ◌≤◌, ◌<◌}
use native.Mathlib.Omega.{arith}
use native.Mathlib.Decide.{dec_lt}
use lib.ListN.{length, get_or, set, length-set}
use lib.Seq.{get_or-set_same}
use Rattle.build_spec.proofs.Appended.{appended-none, appended-full, appended-put, appended-as, appended_then}
use Rattle.build_spec.proofs.Growth.{Upto, upto-join, upto-part}
use Rattle.build_spec.specs.Emission.{Stands, Once, Emitted}

nothing : {xs : List ℕ} {m : ℕ} → m ≤ length xs → Once m xs m
nothing h = record { fits = h; once = λ p q k l j. absurd (omega arith) }

module _ {N : ℕ → Type 0} {xs : List ℕ} {m : ℕ} where
  pub emitted-none : m ≤ length xs → ((y : ℕ) → N y → ⊥) → Emitted N xs m xs m false
  emitted-none h e = appended-none (nothing h) (λ y n. absurd (e y n))

  -- no room for y
  pub emitted-full : (y : ℕ) → N y → m ≡ length xs → Emitted N xs m xs m true
  emitted-full y n f = appended-full (nothing (omega arith)) y n (λ s. omega (arith, s.1, s.2)) f

  -- y written at the end
  pub emitted-put : (y : ℕ) → m < length xs → N y → ((z : ℕ) → N z → z ≡ y) → Emitted N xs m (set xs m y) (m + 1) false
  emitted-put y h n is = appended-put y h (record { fits = omega (arith, length-set xs m y); once = λ p q k l j. absurd (omega arith) })
      (λ z o. (m, omega arith, omega arith, get_or-set_same xs m y 0 h ∙ sym (is z o))) n

-- the numbers of N, and after them others
module _ {N U : ℕ → Type 0} {xs ys zs : List ℕ} {m r u : ℕ} {full full' : Bool} (g : Emitted N xs m ys r full) (e : full ≡ false) (h : Emitted U ys r zs u full')
    (apart : (y : ℕ) → N y → U y → ⊥) where
  first : (p : ℕ) → m ≤ p → p < r → N (get_or zs p 0)
  first p k l = rw (h.same p l) (g.only p k l)

  then-once : (p q : ℕ) → m ≤ p → p < q → q < u → get_or zs p 0 ≡ get_or zs q 0 → ⊥
  then-once p q k l j d = by_cases (dec_lt q r)
      (λ b. g.kept.once p q k l b (sym (h.same p (omega arith)) ∙ d ∙ h.same q b))
      (λ b. by_cases (dec_lt p r)
      (λ c. apart (get_or zs q 0) (rw d at (first p k c)) (h.only q (omega arith) j))
      (λ c. h.kept.once p q (omega arith) l j d))

  -- a number that lacks room is none of N
  lacking : (y : ℕ) → U y → (Stands r zs u y → ⊥) → Stands m zs u y → ⊥
  lacking y v o s = by_cases (dec_lt s.0 r) (λ b. apart y (rw s.3 at (first s.0 s.1 b)) v) (λ b. o (s.0, omega arith, s.2, s.3))

  pub emitted_then : {X : ℕ → Type 0} → ((y : ℕ) → N y ⊎ U y → X y) → (full' ≡ false → (y : ℕ) → X y → N y ⊎ U y) → Emitted X xs m zs u full'
  emitted_then = appended_then g e h (record { fits = h.kept.fits; once = then-once })
      (λ y s. (s.0, s.1, omega (arith, s.2, h.more), h.same s.0 s.2 ∙ s.3)) (λ y s. (s.0, omega (arith, s.1, g.more), s.2, s.3)) lacking

-- ---- up to a count

module _ {G : ℕ → ℕ → Type 0} {xs : List ℕ} {m : ℕ} where
  pub emitted-start : m ≤ length xs → Emitted (Upto G 0) xs m xs m false
  emitted-start h = emitted-none h (λ y f. omega (arith, f.1))

  -- number i stands for nothing that is not there
  pub emitted-skip : {i : ℕ} {ys : List ℕ} {r : ℕ} {full : Bool} → Emitted (Upto G i) xs m ys r full → ((y : ℕ) → G i y → Upto G i y) → Emitted (Upto G (i + 1)) xs m ys r full
  emitted-skip {i} g b = appended-as g (λ t y d. ⊎_elim (λ f. f) (b y) (upto-part G i y d)) (λ y d. upto-join G i y (inl d))

  module _ {i : ℕ} {ys zs : List ℕ} {r u : ℕ} {full full' : Bool} (g : Emitted (Upto G i) xs m ys r full) (e : full ≡ false) (h : Emitted (G i) ys r zs u full')
      (apart : (y : ℕ) → Upto G i y → G i y → ⊥) where
    pub emitted-next : Emitted (Upto G (i + 1)) xs m zs u full'
    emitted-next = emitted_then g e h apart (upto-join G i) (λ t. upto-part G i)

    pub emitted-over : {s : ℕ} → i < s → full' ≡ true → Emitted (Upto G s) xs m zs u full'
    emitted-over l f = appended-as emitted-next (λ t. absurd (true≢false (sym f ∙ t))) (λ y k. (k.0, omega (arith, k.1), k.2))
