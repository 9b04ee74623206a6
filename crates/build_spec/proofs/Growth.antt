-- What is added: nothing, one key, one thing after the other, things up to a count.
use mathlib.Core.Path.{◌≡◌, ap, sym, ◌∙◌}
use mathlib.Core.Logic.{◌⊎◌, inl, inr, ⊎_elim, by_cases}
use mathlib.Core.Bool.{Bool, true, false, true≢false}
use mathlib.Core.List.{List}
use Prim.Native.Nat.{ℕ, ◌+◌, ◌*◌, ◌/◌, ◌%◌, ◌^◌, ◌<◌}
use native.Mathlib.Omega.{arith}
use native.Mathlib.Decide.{dec_lt}
use lib.ListN.{length, get_or, set}
use Rattle.build_spec.specs.Chains.{key_at, bucket_of, Lists, Chained}
use Rattle.build_spec.specs.Growth.{Grown, After}
use Rattle.build_spec.proofs.Appended.{appended-none, appended-put, appended_then}
use Rattle.build_spec.proofs.Chains.{key-new, put-chained}

-- G k for some k below i
abbrev pub Upto : (ℕ → ℕ → Type 0) → ℕ → ℕ → Type 0
Upto G i y = (k : ℕ) × (k < i) × G k y

pub upto-join : (G : ℕ → ℕ → Type 0) (i y : ℕ) → Upto G i y ⊎ G i y → Upto G (i + 1) y
upto-join G i y = ⊎_elim (λ f. (f.0, omega (arith, f.1), f.2)) (λ k. (i, omega arith, k))

pub upto-part : (G : ℕ → ℕ → Type 0) (i y : ℕ) → Upto G (i + 1) y → Upto G i y ⊎ G i y
upto-part G i y k = by_cases (dec_lt k.0 i) (λ l. inl (k.0, l, k.2)) (λ l. inr (let q : k.0 ≡ i = omega (arith, k.1) in rw q at k.2))

-- ---- one key

-- y put at the end
pub grown-put : {xs heads last : List ℕ} {n : ℕ} → Chained xs heads last n → (y : ℕ) → (Lists xs n y → ⊥) → n < length xs → y < 2 ^ 48
    → Grown (λ z. z ≡ y) (λ z. z ≡ y) xs n (set xs n (get_or heads (bucket_of (y / 256)) 0 * 2 ^ 48 + y)) (set heads (bucket_of (y / 256)) n) (set last (y / 256 % 256) (n + 1)) (n + 1) false
grown-put {n = n} C y new room low =
    appended-put _ room (put-chained C y room low new) (λ z e. (n, omega arith, key-new C y room low new ∙ sym e)) (omega arith)

-- ---- one thing after the other

module _ {W F : ℕ → Type 0} {xs : List ℕ} {n : ℕ} {ys heads last : List ℕ} {m : ℕ} {full : Bool} (g : Grown W F xs n ys heads last m full) where
  pub key-kept : (p : ℕ) → p < n → key_at ys p ≡ key_at xs p
  key-kept p l = ap (λ (x : ℕ). x % 2 ^ 48) (g.same p l)

  pub lists-kept : {y : ℕ} → Lists xs n y → Lists ys m y
  lists-kept h = (h.0, omega (arith, h.1, g.more), key-kept h.0 h.1 ∙ h.2)

  -- keys from a place on, of the old list and of the new
  pub after_kept : (R : ℕ → ℕ → Type 0) {from y : ℕ} → After from n xs R y → After from m ys R y
  after_kept R h = (h.0, h.1, omega (arith, h.2, g.more), rw (key-kept h.0 h.2) h.3)

  -- a property of the old and of what is added
  pub all_in : (R : ℕ → Type 0) → ((p : ℕ) → p < n → R (key_at xs p)) → ((y : ℕ) → F y → R y) → (p : ℕ) → p < m → R (key_at ys p)
  all_in R old new p l = by_cases (dec_lt p n) (λ h. rw (key-kept p h) (old p h)) (λ h. new (key_at ys p) (g.only p (omega arith) l))

  pub all-kept : ((p : ℕ) → p < n → F (key_at xs p)) → (p : ℕ) → p < m → F (key_at ys p)
  all-kept old = all_in F old (λ y h. h)

pub grown-then : {W U X F : ℕ → Type 0} {xs ys zs hs ls heads last : List ℕ} {n m u : ℕ} {full full' : Bool} → Grown W F xs n ys hs ls m full → full ≡ false
    → Grown U F ys m zs heads last u full' → (full' ≡ false → (y : ℕ) → X y → W y ⊎ U y) → Grown X F xs n zs heads last u full'
grown-then g e h = appended_then g e h h.kept (λ y. lists-kept h) (λ y l. l) (λ y f o. o) (λ y. ⊎_elim (λ f. f) (λ f. f))

-- ---- up to a count

module _ {G : ℕ → ℕ → Type 0} {F : ℕ → Type 0} {xs : List ℕ} {n : ℕ} where
  pub upto-start : {heads last : List ℕ} → Chained xs heads last n → Grown (Upto G 0) F xs n xs heads last n false
  upto-start C = appended-none C (λ y h. absurd (omega (arith, h.1)))

  module _ {U : ℕ → Type 0} {i : ℕ} {ys zs hs ls heads last : List ℕ} {m u : ℕ} {full full' : Bool} (g : Grown (Upto G i) F xs n ys hs ls m full) (e : full ≡ false)
      (h : Grown U F ys m zs heads last u full') where
    -- the turn adds what number i stands for
    pub upto_next : ((y : ℕ) → G i y → U y) → Grown (Upto G (i + 1)) F xs n zs heads last u full'
    upto_next v = grown-then g e h (λ t y k. ⊎_elim inl (λ o. inr (v y o)) (upto-part G i y k))

    pub upto-full : {X : ℕ → Type 0} → full' ≡ true → Grown X F xs n zs heads last u full'
    upto-full f = grown-then g e h (λ t. absurd (true≢false (sym f ∙ t)))
