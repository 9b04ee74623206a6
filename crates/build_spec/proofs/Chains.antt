-- A key is put at the end, and the head of its bucket becomes its link.
use mathlib.Core.Path.{◌≡◌, refl, ap, sym, ◌∙◌}
use mathlib.Core.Logic.{◌⊎◌, inl, inr, ⊎_elim, by_cases}
use mathlib.Core.List.{List}
use Prim.Native.Nat.{ℕ, ◌+◌, ◌*◌, ◌/◌, ◌%◌, ◌^◌, ◌≤◌, ◌<◌}
use native.Mathlib.Omega.{arith}
use native.Mathlib.Decide.{dec_lt, ℕ_discrete}
use lib.Bits.{and_le_r}
use lib.ListN.{length, get_or, set, replicate, length-set, length-replicate, get_or-replicate}
use lib.Seq.{get_or-set_same, get_or-set_other}
use Rattle.build_spec.specs.Chains.{key_at, link_at, bucket_of, bucket_at, Lists, Begins, Chained}

pub bucket-low : (core : ℕ) → bucket_of core < 16384
unfolding bucket_of
bucket-low core = omega (arith, and_le_r (core / 2 ^ 8 * 2654435761 / 2 ^ 18) 16383)

-- a chain of a list that agrees below place n
pub begins-same : {xs ys : List ℕ} {n b top : ℕ} → ((p : ℕ) → p < n → get_or ys p 0 ≡ get_or xs p 0) → Begins xs n b top → Begins ys n b top
begins-same {n = n} {top = top} s g = record {
  inside = g.inside;
  own = by_cases (dec_lt top n)
      (λ l. ⊎_elim inl (λ e. inr (ap (λ (x : ℕ). bucket_of (x % 2 ^ 48 / 256)) (s top l) ∙ e)) g.own)
      (λ l. inl (omega (arith, g.inside)));
  above = λ p l e. g.above p l (sym (ap (λ (x : ℕ). bucket_of (x % 2 ^ 48 / 256)) (s p l)) ∙ e);
}

-- with an element more that is not of the bucket
pub begins-other : {xs : List ℕ} {n b top : ℕ} → (bucket_at xs n ≡ b → ⊥) → Begins xs n b top → Begins xs (n + 1) b top
begins-other {n = n} o g = record {
  inside = omega (arith, g.inside);
  own = g.own;
  above = λ p l e. by_cases (ℕ_discrete p n) (λ q. absurd (o (rw q at e))) (λ q. g.above p (omega arith) e);
}

-- with an element more of the bucket
pub begins-own : (xs : List ℕ) (n : ℕ) → Begins xs (n + 1) (bucket_at xs n) n
begins-own xs n = record { inside = omega arith; own = inr refl; above = λ p l e. omega arith }

-- heads and links are places
pub head-low : {xs heads last : List ℕ} {n : ℕ} → Chained xs heads last n → (b : ℕ) → b < 16384 → get_or heads b 0 < 65536
head-low C b l = omega (arith, (C.begin b l).inside, C.fits, C.few)

-- no key
pub chained-none : {xs heads last : List ℕ} → length xs ≤ 65536 → heads ≡ replicate 16384 0 → last ≡ replicate 256 0 → Chained xs heads last 0
chained-none {heads = heads} f eh el = record {
  fits = omega arith;
  few = f;
  buckets = ap length eh ∙ length-replicate {A = ℕ} 16384 0;
  sets = ap length el ∙ length-replicate {A = ℕ} 256 0;
  begin = λ b l. record { inside = omega (arith, zero b l); own = inl (zero b l); above = λ p h e. omega arith };
  links = λ p h l. absurd (omega arith);
  once = λ p q h l e. absurd (omega arith);
  clock = λ p l. absurd (omega arith);
}
  where
    zero : (b : ℕ) → b < 16384 → get_or heads b 0 ≡ 0
    zero b l = ap (λ (h : List ℕ). get_or h b 0) eh ∙ get_or-replicate 16384 b 0 0 l

-- one key more
module _ {xs heads last : List ℕ} {n : ℕ} (C : Chained xs heads last n) (y : ℕ) (room : n < length xs) (low : y < 2 ^ 48) (new : Lists xs n y → ⊥) where
  abbrev b : ℕ
  b = bucket_of (y / 256)

  abbrev element : ℕ
  element = get_or heads b 0 * 2 ^ 48 + y

  abbrev ys : List ℕ
  ys = set xs n element

  abbrev heads' : List ℕ
  heads' = set heads b n

  abbrev last' : List ℕ
  last' = set last (y / 256 % 256) (n + 1)

  put-here : get_or ys n 0 ≡ element
  put-here = get_or-set_same xs n element 0 room

  pub put_same : (p : ℕ) → p < n → get_or ys p 0 ≡ get_or xs p 0
  put_same p l = get_or-set_other xs n p element 0 (λ e. omega arith)

  pub key-new : key_at ys n ≡ y
  key-new = rw put-here (omega arith)

  link-new : link_at ys n ≡ get_or heads b 0
  link-new = rw put-here (omega arith)

  key-old : (p : ℕ) → p < n → key_at ys p ≡ key_at xs p
  key-old p l = ap (λ (x : ℕ). x % 2 ^ 48) (put_same p l)

  bucket-new : bucket_at ys n ≡ b
  bucket-new = ap (λ (x : ℕ). bucket_of (x / 256)) key-new

  begins-new : (c : ℕ) → c < 16384 → Begins ys (n + 1) c (get_or heads' c 0)
  begins-new c l = by_cases (ℕ_discrete c b)
      (λ e. rw (e, get_or-set_same heads b n 0 (let h = bucket-low (y / 256) in omega (arith, C.buckets))) (rw bucket-new at (begins-own ys n)))
      (λ e. rw (get_or-set_other heads b c n 0 e) (begins-other (λ q. e (sym q ∙ bucket-new)) (begins-same put_same (C.begin c l))))

  links-new : (p : ℕ) → 0 < p → p < n + 1 → Begins ys p (bucket_at ys p) (link_at ys p)
  links-new p h l = by_cases (ℕ_discrete p n)
      (λ e. rw (e, link-new, bucket-new) (begins-same put_same (C.begin b (bucket-low (y / 256)))))
      (λ e. let k : p < n = omega arith in rw (put_same p k) (begins-same (λ q j. put_same q (omega arith)) (C.links p h k)))

  once-new : (p q : ℕ) → p < q → q < n + 1 → key_at ys p ≡ key_at ys q → ⊥
  once-new p q h l e = by_cases (ℕ_discrete q n)
      (λ u. new (p, omega arith, sym (key-old p (omega arith)) ∙ e ∙ ap (key_at ys) u ∙ key-new))
      (λ u. C.once p q h (omega arith) (sym (key-old p (omega arith)) ∙ e ∙ key-old q (omega arith)))

  clock-at : (s : ℕ) → s < 256 → (p : ℕ) → (s ≡ y / 256 % 256 → p < n + 1) → ((s ≡ y / 256 % 256 → ⊥) → p < get_or last s 0) → p < get_or last' s 0
  clock-at s l p f g = by_cases (ℕ_discrete s (y / 256 % 256))
      (λ e. rw (e, get_or-set_same last (y / 256 % 256) (n + 1) 0 (omega (arith, C.sets))) (f e))
      (λ e. rw (get_or-set_other last (y / 256 % 256) s (n + 1) 0 e) (g e))

  clock-new : (p : ℕ) → p < n + 1 → p < get_or last' (key_at ys p / 256 % 256) 0
  clock-new p l = clock-at (key_at ys p / 256 % 256) (omega arith) p (λ e. l)
      (λ e. by_cases (ℕ_discrete p n)
      (λ u. absurd (e (ap (λ (x : ℕ). x / 256 % 256) (ap (key_at ys) u ∙ key-new))))
      (λ u. rw (key-old p (omega arith)) (C.clock p (omega arith))))

  pub put-chained : Chained ys heads' last' (n + 1)
  put-chained = record {
    fits = omega (arith, length-set xs n element);
    few = omega (arith, length-set xs n element, C.few);
    buckets = length-set heads b n ∙ C.buckets;
    sets = length-set last (y / 256 % 256) (n + 1) ∙ C.sets;
    begin = begins-new;
    links = links-new;
    once = once-new;
    clock = clock-new;
  }
