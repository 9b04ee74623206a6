-- Ranks in use, as a mask: walked over a component, counted, and without a gap.
use mathlib.Core.Path.{◌≡◌, refl, ap, ap₂, sym, ◌∙◌}
use mathlib.Core.Logic.{by_cases}
use mathlib.Core.Bool.{Bool, true, false, ◌&&◌, ◌||◌, not, cond, or-false, or_assoc}
use mathlib.Core.List.{List}
use Prim.Native.Nat.{ℕ, zero, suc, ◌+◌, ◌-◌, ◌*◌, ◌/◌, ◌%◌, ◌^◌, ◌≤◌, ◌<◌}
use native.Mathlib.Omega.{arith}
use native.Mathlib.Decide.{ℕ_discrete}
use native.Mathlib.Nat.{mod-lt}
use native.Mathlib.Numerals.{add-one}
use lib.Dec.{eqb}
use lib.Bits.{bit_and, bit_or, and_step, and_self, or_lt}
use lib.Count.{ones, count_trailing_zeros}
use lib.Pow.{shr_lt, pow-lt}
use borrow.Author.Tests.{eq-eqb, ne_eqb}
use Rattle.sets.specs.Tests.{Set, one, some_below, count}
use Rattle.sets.specs.Masks.{bit, mask, members}
use Rattle.sets.specs.Lists.{any_of}
use Rattle.sets.specs.Digits.{num}
use Rattle.sets.proofs.Bools.{bif, clash, and_l, and_r, and_i, or_l, or_r, or_tf, iff}
use Rattle.sets.proofs.Tests.{every-at, every-all, some_at, some-get, count-ext, count-max}
use Rattle.sets.proofs.Lists.{any_out, any-in, any-cons}
use Rattle.sets.proofs.Masks.{mask_lt, bit_mask}
use Rattle.sets.proofs.Digits.{num-add, num-ext, num-lt}
use Rattle.sets.proofs.Bits.{bit-or, bit-none, bit-zero, bit-half, bit-shl-one, bit-ext, bit_below, mask-unique, ones-count}
use Rattle.sets.proofs.Members.{members-cons, members-none, members-in, members-out}
use Rattle.build_cores.specs.Vectors.{rank_at}
use Rattle.build_cores.specs.Used.{taken, used, class_count_lem, gapless, sizes_of}
use Rattle.build_cores.proofs.Sums.{num-nothing}

-- ---- the walk over a component

any_some : (m : ℕ) (f : Set) → any_of (members m) f ≡ some_below 8 (λ q. bit m q && f q)
any_some m f = iff (any_of (members m) f) (some_below 8 (λ q. bit m q && f q))
    (λ t. let r = any_out (members m) f t in let i = members-out m r.0 r.1 in some_at 8 (λ q. bit m q && f q) r.0 i.0 (and_i i.1 r.2))
    (λ t. let r = some-get 8 (λ q. bit m q && f q) t in
    any-in (members m) f r.0 (members-in m r.0 r.1 (and_l (bit m r.0) (f r.0) r.2)) (and_r (bit m r.0) (f r.0) r.2))

-- found holds the ranks of the states that have been left behind, and 0
pub record Walk (ranks part found left : ℕ) : Type 0 where
  pub small : found < 2 ^ 16
  pub rest : left < 256
  pub same : (j : ℕ) → bit found j || any_of (members left) (λ q. eqb (rank_at ranks q) j) ≡ used ranks part j

zero-flip : (j : ℕ) → eqb 0 j ≡ eqb j 0
zero-flip j = by_cases (ℕ_discrete j 0) (λ e. rw e) (λ e. ne_eqb 0 j (λ x. e (sym x)) ∙ sym (ne_eqb j 0 e))

pub walk_start : (ranks part : ℕ) → part < 256 → Walk ranks part 1 part
unfolding used taken
walk_start ranks part h = record {
  small = omega arith;
  rest = h;
  same = λ j. ap₂ (λ (x y : Bool). x || y) (bit-shl-one 0 j ∙ zero-flip j) (any_some part (λ q. eqb (rank_at ranks q) j));
}

pub walk-on : (ranks part found left v : ℕ) → 0 < left → rank_at ranks (count_trailing_zeros 8 left) < 16 → v ≡ 2 ^ rank_at ranks (count_trailing_zeros 8 left) → bit_and left (left - 1) < 256
    → Walk ranks part found left → Walk ranks part (bit_or found v) (bit_and left (left - 1))
walk-on ranks part found left v p low e h w =
    let q = count_trailing_zeros 8 left in record {
      small = or_lt 16 found v w.small (rw e (pow-lt {i = rank_at ranks q} {j = 16} low));
      rest = h;
      same = λ j. ap (λ (b : Bool). b || any_of (members (bit_and left (left - 1))) (λ q. eqb (rank_at ranks q) j))
          (bit-or found v j ∙ ap (λ (x : ℕ). bit found j || bit x j) e ∙ ap (λ (b : Bool). bit found j || b) (bit-shl-one (rank_at ranks q) j))
          ∙ or_assoc (bit found j) (eqb (rank_at ranks q) j) (any_of (members (bit_and left (left - 1))) (λ q. eqb (rank_at ranks q) j))
          ∙ ap (λ (b : Bool). bit found j || b) (sym (any-cons (λ q. eqb (rank_at ranks q) j) q (members (bit_and left (left - 1))))
          ∙ ap (λ (l : List ℕ). any_of l (λ q. eqb (rank_at ranks q) j)) (sym (members-cons left p w.rest)))
          ∙ w.same j;
    }

pub walk_end : (ranks part found left : ℕ) → left ≡ 0 → Walk ranks part found left → found ≡ mask 16 (used ranks part)
unfolding any_of
walk_end ranks part found left e w = mask-unique 16 found (used ranks part) w.small
    (λ j l. sym (or-false (bit found j)) ∙ ap (λ (xs : List ℕ). bit found j || any_of xs (λ q. eqb (rank_at ranks q) j)) (sym (ap members e ∙ members-none 8 0)) ∙ w.same j)

pub rank-low : (ranks q : ℕ) → rank_at ranks q < 16
unfolding rank_at
rank-low ranks q = mod-lt (ranks / 2 ^ (4 * q)) {m = 16} (omega arith)

-- ---- the number of classes

pub count-shift : (n : ℕ) (f : Set) → count (suc n) f ≡ one (f 0) + count n (λ j. f (suc j))
unfolding count
count-shift zero f = omega arith
count-shift (suc n) f = let ih = count-shift n f in omega arith

pub used-zero : (ranks part : ℕ) → used ranks part 0 ≡ true
unfolding used
used-zero ranks part = refl

pub used-suc : (ranks part j : ℕ) → used ranks part (suc j) ≡ taken ranks part (suc j)
unfolding used
used-suc ranks part j = ap (λ (b : Bool). b || taken ranks part (suc j)) (ne_eqb (suc j) 0 (omega arith))

pub ones-classes : (ranks part : ℕ) → ones (mask 16 (used ranks part)) ≡ class_count_lem ranks part + 1
unfolding class_count_lem
ones-classes ranks part =
    let f = used ranks part in
    ones-count 16 (mask 16 f) (mask_lt 16 f)
    ∙ count-ext 16 (bit (mask 16 f)) f (λ q l. bit_mask 16 f q l)
    ∙ count-shift 15 f
    ∙ (let a : one (f 0) ≡ 1 = rw (used-zero ranks part) in
    let b : count 15 (λ j. f (suc j)) ≡ count 15 (λ j. taken ranks part (suc j)) = count-ext 15 (λ j. f (suc j)) (λ j. taken ranks part (suc j)) (λ j l. used-suc ranks part j) in
    omega arith)

-- ---- no gap

-- each member but the least number has the one before it
pub record Unbroken (m : ℕ) : Type 0 where
  pub down : (q : ℕ) → bit m (suc q) ≡ true → bit m q ≡ true

even-and : (m : ℕ) → m % 2 ≡ 0 → bit_and m (m + 1) ≡ m
even-and m e =
    let h : (m + 1) / 2 ≡ m / 2 = omega arith in
    let a : bit_and (m / 2) ((m + 1) / 2) ≡ m / 2 = rw h (and_self (m / 2)) in
    omega (arith, and_step m (m + 1))

odd-and : (m : ℕ) → m % 2 ≡ 1 → bit_and m (m + 1) ≡ bit_and (m / 2) (m / 2 + 1) * 2
odd-and m e =
    let h : (m + 1) / 2 ≡ m / 2 + 1 = omega arith in
    let a : bit_and (m / 2) ((m + 1) / 2) ≡ bit_and (m / 2) (m / 2 + 1) = ap (bit_and (m / 2)) h in
    omega (arith, and_step m (m + 1))

even-or-odd : (m : ℕ) → (m % 2 ≡ 1 → ⊥) → m % 2 ≡ 0
even-or-odd m n = omega arith

pub and-unbroken : (q m : ℕ) → bit_and m (m + 1) ≡ 0 → bit m (suc q) ≡ true → bit m q ≡ true
and-unbroken zero m e t = by_cases (ℕ_discrete (m % 2) 1)
    (λ o. bit-zero m ∙ eq-eqb (m % 2) 1 o)
    (λ o. let z : m ≡ 0 = sym (even-and m (even-or-odd m o)) ∙ e in clash t (ap (λ (x : ℕ). bit x 1) z ∙ bit-none 1))
and-unbroken (suc q) m e t = by_cases (ℕ_discrete (m % 2) 1)
    (λ o. sym (bit-half m q) ∙ and-unbroken q (m / 2) (omega (arith, odd-and m o)) (bit-half m (suc q) ∙ t))
    (λ o. let z : m ≡ 0 = sym (even-and m (even-or-odd m o)) ∙ e in clash t (ap (λ (x : ℕ). bit x (suc (suc q))) z ∙ bit-none (suc (suc q))))

none-without : (m : ℕ) → Unbroken m → bit m 0 ≡ false → (q : ℕ) → bit m q ≡ false
none-without m u e zero = e
none-without m u e (suc q) = bif (bit m (suc q)) (λ t. clash (u.down q t) (none-without m u e q)) (λ t. t)

pub unbroken-and : (n m : ℕ) → m < 2 ^ n → Unbroken m → bit_and m (m + 1) ≡ 0
unbroken-and zero m h u = let z : m ≡ 0 = omega arith in rw z
unbroken-and (suc n) m h u = by_cases (ℕ_discrete (m % 2) 1)
    (λ o. let ih = unbroken-and n (m / 2) (shr_lt n 1 (rw add-one h)) (record { down = λ q t. bit-half m q ∙ u.down (suc q) (sym (bit-half m (suc q)) ∙ t) }) in omega (arith, odd-and m o))
    (λ o. let z : m ≡ 0 = bit-ext (suc n) m 0 h (omega arith) (λ q l. none-without m u (bit-zero m ∙ ne_eqb (m % 2) 1 o) q ∙ sym (bit-none q)) in even-and m (even-or-odd m o) ∙ z)

-- by its ranks, one after the other
pub gapless-in : (ranks part : ℕ) → ((j : ℕ) → j < 15 → used ranks part (suc j) ≡ true → used ranks part j ≡ true) → gapless ranks part ≡ true
unfolding gapless
gapless-in ranks part h = let f = used ranks part in every-all 15 (λ j. not (f (suc j)) || f j)
    (λ j l. bif (f (suc j)) (λ t. or_r (not (f (suc j))) (f j) (h j l t)) (λ t. or_l (not (f (suc j))) (f j) (ap not t)))

pub gapless-out : (ranks part : ℕ) → gapless ranks part ≡ true → (j : ℕ) → j < 15 → used ranks part (suc j) ≡ true → used ranks part j ≡ true
unfolding gapless
gapless-out ranks part g j l t = let f = used ranks part in or_tf (f (suc j)) (f j) (every-at 15 (λ x. not (f (suc x)) || f x) g j l) t

-- the code's test
pub gap-free : (ranks part : ℕ) → bit_and (mask 16 (used ranks part)) (mask 16 (used ranks part) + 1) ≡ 0 → gapless ranks part ≡ true
gap-free ranks part e = let f = used ranks part in
    gapless-in ranks part (λ j l t. sym (bit_mask 16 f j (omega arith)) ∙ and-unbroken j (mask 16 f) e (bit_mask 16 f (suc j) (omega arith) ∙ t))

pub gap-none : (ranks part : ℕ) → gapless ranks part ≡ true → bit_and (mask 16 (used ranks part)) (mask 16 (used ranks part) + 1) ≡ 0
gap-none ranks part e = let f = used ranks part in let m = mask 16 f in
    unbroken-and 16 m (mask_lt 16 f) (record {
      down = λ q t.
          let l : suc q < 16 = bit_below 16 m (suc q) (mask_lt 16 f) t in
          bit_mask 16 f q (omega arith) ∙ gapless-out ranks part e q (omega arith) (sym (bit_mask 16 f (suc q) l) ∙ t);
    })

pub gap-there : (ranks part : ℕ) → (bit_and (mask 16 (used ranks part)) (mask 16 (used ranks part) + 1) ≡ 0 → ⊥) → gapless ranks part ≡ false
gap-there ranks part n = bif (gapless ranks part) (λ t. absurd (n (gap-none ranks part t))) (λ t. t)

-- ---- the largest ranks

digit_low : (b : Bool) (c : ℕ) → c ≤ 8 → one b * c < 16
digit_low true c h = omega arith
digit_low false c h = omega arith

sizes-num : (part : ℕ) → sizes_of part ≡ num 16 8 (λ q. one (bit part q) * count 8 (bit part))
unfolding sizes_of
sizes-num part =
    let z : num 16 8 (λ q. 0) ≡ 0 = num-nothing in let e = num-add 16 8 (λ q. 0) (λ q. one (bit part q)) (count 8 (bit part)) in
    let f : num 16 8 (λ q. one (bit part q)) * count 8 (bit part) ≡ num 16 8 (λ q. 0 + one (bit part q) * count 8 (bit part)) = omega arith in
    f ∙ num-ext 16 (omega arith) 8 _ _ (λ q l. omega arith)

-- a set that is f, and whose size is n at its members
pub sizes-by : (part : ℕ) (f : Set) (n : ℕ → ℕ) → ((q : ℕ) → bit part q ≡ f q) → ((q : ℕ) → f q ≡ true → count 8 (bit part) ≡ n q) → sizes_of part ≡ num 16 8 (λ q. cond (f q) (n q) 0)
sizes-by part f n same size = sizes-num part
    ∙ num-ext 16 (omega arith) 8 _ _ (λ q k. bif (f q) (λ t. rw (t, same q ∙ t) (omega (arith, size q t))) (λ t. rw (t, same q ∙ t) (omega arith)))

pub sizes-low : (part : ℕ) → sizes_of part < 4294967296
sizes-low part = rw (sizes-num part) (num-lt 16 (omega arith) 8 _ (λ q h. digit_low (bit part q) (count 8 (bit part)) (count-max 8 (bit part))))

pub sizes-are : (part : ℕ) → part < 256 → num 16 8 (λ q. one (bit part q)) * ones part ≡ sizes_of part
unfolding sizes_of
sizes-are part h = ap (λ (x : ℕ). num 16 8 (λ q. one (bit part q)) * x) (ones-count 8 part h)
