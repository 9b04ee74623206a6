-- Numbers by their digits to a base b.
use mathlib.Core.Path.{◌≡◌, refl, sym, ◌∙◌, ap, ap₂}
use mathlib.Core.Logic.{by_cases}
use Prim.Native.Nat.{ℕ, zero, suc, ◌+◌, ◌-◌, ◌*◌, ◌/◌, ◌%◌, ◌^◌, ◌≤◌, ◌<◌}
use native.Mathlib.Omega.{arith}
use native.Mathlib.Decide.{dec_lt, ℕ_discrete}
use native.Mathlib.Nat.{add_comm, add-mul-div_right, mul-add-mod_self_right, mod-eq_of_lt, mul_assoc, pow-suc, pow-zero, mul_comm, mod-one}
use lib.Arith.{digits_div, digits_lt, mod-mul}
use lib.Pow.{pow-add}
use Rattle.sets.specs.Digits.{num}

-- what no step from n on changes
pub stays-from : {T : Type 0} (f : ℕ → T) (n m : ℕ) → n ≤ m → ((p : ℕ) → n ≤ p → p < m → f (suc p) ≡ f p) → f m ≡ f n
stays-from f n zero l h = let e : n ≡ 0 = omega arith in rw e
stays-from f n (suc m) l h =
    by_cases (ℕ_discrete n (suc m)) (λ e. rw e) (λ e. h m (omega arith) (omega arith) ∙ stays-from f n m (omega arith) (λ p a b. h p a (omega arith)))

-- digits added place by place
pub num-add : (b m : ℕ) (f g : ℕ → ℕ) (c : ℕ) → num b m f + num b m g * c ≡ num b m (λ q. f q + g q * c)
unfolding num
num-add b zero f g c = omega arith
num-add b (suc m) f g c = let ih = num-add b m f g c in omega arith

-- the lowest digit apart
pub num-low : (b m : ℕ) (f : ℕ → ℕ) → num b (suc m) f ≡ num b m (λ j. f (suc j)) * b + f 0
unfolding num
num-low b zero f = let e : b ^ 0 ≡ 1 = pow-zero b in rw e (omega arith)
num-low b (suc m) f = ap₂ (λ (x y : ℕ). f (suc m) * x + y) (pow-suc b m) (num-low b m f) ∙ omega arith

-- digits from n on that are 0
pub num-trim : (b m n : ℕ) (f : ℕ → ℕ) → n ≤ m → ((j : ℕ) → n ≤ j → j < m → f j ≡ 0) → num b m f ≡ num b n f
unfolding num
num-trim b m n f l h = stays-from (λ k. num b k f) n m l (λ p x y. let z : f p * b ^ p ≡ 0 * b ^ p = rw (h p x y) in omega arith)

-- four bits are one hexadecimal digit
pub pow16 : (q : ℕ) → 2 ^ (4 * q) ≡ 16 ^ q
pow16 zero = refl
pow16 (suc q) =
    let e : 4 * suc q ≡ 4 * q + 4 = omega arith in
    ap (λ (x : ℕ). 2 ^ x) e ∙ pow-add 2 (4 * q) 4 ∙ ap (λ (x : ℕ). x * 16) (pow16 q) ∙ sym (pow-suc 16 q)

module _ (b : ℕ) (hb : 0 < b) where
  pos : (k : ℕ) → 0 < b ^ k
  pos zero = rw (pow-zero b) (omega arith)
  pos (suc k) = rw (pow-suc b k) (digits-pos (pos k) hb)
    where
      digits-pos : {x y : ℕ} → 0 < x → 0 < y → 0 < x * y
      digits-pos {x} {y} h k = let z = digits_lt {q = 0} {m = x} {r = 0} {c = y} h k in omega arith

  pub num-lt : (m : ℕ) (f : ℕ → ℕ) → ((j : ℕ) → j < m → f j < b) → num b m f < b ^ m
  unfolding num
  num-lt zero f h = rw (pow-zero b) (omega arith)
  num-lt (suc m) f h = rw (pow-suc b m ∙ mul_comm (b ^ m) b) (digits_lt (h m (omega arith)) (num-lt m f (λ j l. h j (omega arith))))

  arrange : (a x y m : ℕ) → a * (x * b * y) + m ≡ m + a * x * b * y
  arrange a x y m = omega arith

  -- a digit above does not show below
  pub digit-above : (a m n q : ℕ) → q < n → (a * b ^ n + m) / b ^ q % b ≡ m / b ^ q % b
  digit-above a m n q l =
      let e : n ≡ (n - suc q) + suc q = omega arith in
      ap (λ (x : ℕ). (a * b ^ x + m) / b ^ q % b) e
      ∙ ap (λ (x : ℕ). (a * x + m) / b ^ q % b) (pow-add b (n - suc q) (suc q) ∙ ap (λ (x : ℕ). b ^ (n - suc q) * x) (pow-suc b q ∙ mul_comm (b ^ q) b) ∙ sym (mul_assoc (b ^ (n - suc q)) b (b ^ q)))
      ∙ ap (λ (x : ℕ). x / b ^ q % b) (arrange a (b ^ (n - suc q)) (b ^ q) m)
      ∙ ap (λ (x : ℕ). x % b) (add-mul-div_right m (a * b ^ (n - suc q) * b) (pos q) ∙ add_comm (m / b ^ q) (a * b ^ (n - suc q) * b))
      ∙ mul-add-mod_self_right (a * b ^ (n - suc q)) b (m / b ^ q)

  pub digit-num : (m : ℕ) (f : ℕ → ℕ) → ((j : ℕ) → j < m → f j < b) → (q : ℕ) → q < m → num b m f / b ^ q % b ≡ f q
  unfolding num
  digit-num zero f h q l = absurd (omega arith)
  digit-num (suc m) f h q l =
      by_cases (dec_lt q m)
      (λ k. digit-above (f m) (num b m f) m q k ∙ digit-num m f (λ j n. h j (omega arith)) q k)
      (λ k. let e : q ≡ m = omega arith in
      rw e (ap (λ (x : ℕ). x % b) (digits_div (f m) (num-lt m f (λ j n. h j (omega arith)))) ∙ mod-eq_of_lt (h m (omega arith))))

  pub num-digits : (m c : ℕ) → num b m (λ j. c / b ^ j % b) ≡ c % b ^ m
  unfolding num
  num-digits zero c = sym (ap (λ (x : ℕ). c % x) (pow-zero b) ∙ mod-one c)
  num-digits (suc m) c = ap (λ (x : ℕ). c / b ^ m % b * b ^ m + x) (num-digits m c) ∙ sym (mod-mul c hb (pos m)) ∙ ap (λ (x : ℕ). c % x) (mul_comm b (b ^ m) ∙ sym (pow-suc b m))

  pub num-ext : (m : ℕ) (f g : ℕ → ℕ) → ((j : ℕ) → j < m → f j ≡ g j) → num b m f ≡ num b m g
  unfolding num
  num-ext zero f g h = refl
  num-ext (suc m) f g h = rw (h m (omega arith), num-ext m f g (λ j l. h j (omega arith)))

  -- numbers below b ^ m with the same digits
  pub digits-eq : (m c d : ℕ) → c < b ^ m → d < b ^ m → ((j : ℕ) → j < m → c / b ^ j % b ≡ d / b ^ j % b) → c ≡ d
  digits-eq m c d hc hd h = sym (mod-eq_of_lt hc) ∙ sym (num-digits m c) ∙ num-ext m _ _ h ∙ num-digits m d ∙ mod-eq_of_lt hd
