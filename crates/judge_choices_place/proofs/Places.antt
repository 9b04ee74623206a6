-- Laws of sets of places, and of a word that is ready.
use mathlib.Core.Path.{◌≡◌, refl, sym, ◌∙◌, ap}
use mathlib.Core.Logic.{by_cases}
use mathlib.Core.Bool.{Bool, true, false, ◌&&◌, ◌||◌, not, or-false, and-true, and-false}
use mathlib.Core.List.Memᴰ
use mathlib.Core.List.{List}
use Prim.Native.Nat.{ℕ, suc, ◌+◌, ◌-◌, ◌*◌, ◌/◌, ◌%◌, ◌^◌, ◌≤◌, ◌<◌}
use native.Mathlib.Omega.{arith}
use native.Mathlib.Decide.{ℕ_discrete}
use native.Mathlib.Nat.{mul-le-mul, mul-le-mul_right}
use lib.Bits.{bit_and, bit_or, or_lt}
use lib.Count.{count_trailing_zeros}
use lib.Dec.{eqb}
use lib.ListN.{length, get_or}
use lib.Pow.{pow-lt, shr_lt, shr-shr}
use borrow.Author.Tests.{eq-eqb, ne_eqb, eqb-false, lt-ltb, eqb-true}
use Rattle.sets.specs.Masks.{bit}
use Rattle.sets.proofs.Bools.{and_l, or-fl, or-fr, iff}
use Rattle.sets.proofs.Bits.{bit-or, bit-half, bit_high, bit-shl-one, shl_one, bit-ext-all, bit-full}
use Rattle.sets.proofs.Masks.{mask_lt, mask-trim}
use Rattle.sets.proofs.Members.{members_step, members-from-out, rest-bit}
use Rattle.set_masks.specs.Sets.{difference_of}
use Rattle.set_masks.proofs.Sets.{contains-is}
use Rattle.theory.specs.Rule.{Rule}
use Rattle.theory.specs.Word.{places, next_place_lem, letter_at_lem}
use Rattle.theory_laws.proofs.Places.{next-place-low, next-place-last, next-place-other}
use Rattle.theory_laws.proofs.Truth.{truth-length, truth-lt}
use Rattle.judge_choices_spec.specs.Rounds.{Ready}
use Rattle.judge_choices_place.proofs.Meaning.{letter-low}

-- ---- a place marked

pub mark-no : (changed found p x : ℕ) → found ≡ 0 → bit changed x ≡ (bit changed x || (eqb x p && not (eqb found 0)))
mark-no changed found p x e = rw (e, and-false (eqb x p)) (sym (or-false (bit changed x)))

marked : (changed found p x : ℕ) → (found ≡ 0 → ⊥) → bit (bit_or changed (2 ^ p)) x ≡ (bit changed x || (eqb x p && not (eqb found 0)))
marked changed found p x n =
    rw (bit-or changed (2 ^ p) x, bit-shl-one p x, ne_eqb found 0 n, and-true (eqb x p))
    (ap (λ (b : Bool). bit changed x || b) (iff _ _ (λ t. eq-eqb x p (sym (eqb-true p x t))) (λ t. eq-eqb p x (sym (eqb-true x p t)))))

pub mark-yes : (changed found p x : ℕ) → (found ≡ 0 → ⊥) → p < 64 → bit (bit_or changed (1 * 2 ^ p % 2 ^ 64)) x ≡ (bit changed x || (eqb x p && not (eqb found 0)))
mark-yes changed found p x n l = rw (shl_one 64 p l) (marked changed found p x n)

-- ---- the places before those that changed

pub clear : (changed at : ℕ) → bit_and (changed / 2 ^ at) 1 ≡ 0 → bit changed at ≡ false
clear changed at e = sym (contains-is changed at) ∙ ap (λ (x : ℕ). eqb x 1) e

pub before-lt : (changed end : ℕ) → changed < 2 ^ end → changed / 2 < 2 ^ end
before-lt changed end l = omega arith

module _ (u v : List ℕ) (changed at end p : ℕ) (a : length u ≡ at) (e : length u + length v ≡ end) where
  -- the cycle's first place did not change
  pub before-none : bit changed at ≡ false → bit (changed / 2) p ≡ false → bit changed (next_place_lem u v p) ≡ false
  before-none c b =
      by_cases (ℕ_discrete (suc p) (places u v)) (λ x. rw (next-place-last u v p x, a) c)
      (λ x. rw (next-place-other u v p x) (sym (bit-half changed p) ∙ b))

  -- it did
  pub before-some : 0 < end → end ≤ 64 → bit (bit_or (changed / 2) (1 * 2 ^ (end - 1) % 2 ^ 64)) p ≡ false → bit changed (next_place_lem u v p) ≡ false
  before-some l m b =
      let s = sym (bit-or (changed / 2) (2 ^ (end - 1)) p) ∙ (rw (shl_one 64 (end - 1) (omega arith)) at b) in
      let f = eqb-false (end - 1) p (sym (bit-shl-one (end - 1) p) ∙ or-fr (bit (changed / 2) p) (bit (2 ^ (end - 1)) p) s) in
      rw (next-place-other u v p (λ x. f (omega arith))) (sym (bit-half changed p) ∙ or-fl (bit (changed / 2) p) (bit (2 ^ (end - 1)) p) s)

pub before-low : (changed end : ℕ) → 0 < end → end ≤ 64 → changed < 2 ^ end → bit_or (changed / 2) (1 * 2 ^ (end - 1) % 2 ^ 64) < 2 ^ end
before-low changed end l m h =
    let k : end - 1 < end = omega arith in
    rw (shl_one 64 (end - 1) (omega arith)) (or_lt end (changed / 2) (2 ^ (end - 1)) (before-lt changed end h) (pow-lt k))

-- ---- all places

module _ (end : ℕ) (l : 0 < end) (m : end ≤ 64) where
  pub all-low : 18446744073709551615 / 2 ^ (64 - end) < 2 ^ end
  all-low = let e : end + (64 - end) ≡ 64 = omega arith in shr_lt {n = 18446744073709551615} end (64 - end) (rw e (omega arith))

  pub all_in : (p : ℕ) → p < end → bit (18446744073709551615 / 2 ^ (64 - end)) p ≡ true
  unfolding bit
  all_in p k = ap (λ (x : ℕ). eqb (x % 2) 1) (shr-shr 18446744073709551615 (64 - end) p) ∙ bit-full 64 (64 - end + p) ∙ lt-ltb (64 - end + p) 64 (omega arith)

-- ---- the walk over a set of places

module _ (n left : ℕ) (pos : 0 < left) (small : left < 2 ^ n) where
  pub least-in : bit left (count_trailing_zeros n left) ≡ true
  least-in =
      let m = members-from-out n 0 left (0 + count_trailing_zeros n left) (rw (members_step n 0 left pos small) (Memᴰ.head refl)) in
      let e : count_trailing_zeros n left ≡ m.number = omega (arith, m.here) in
      ap (bit left) e ∙ m.member

  -- the set without its least place
  abbrev rest : ℕ
  rest = bit_and left (left - 1)

  pub still-left : (x : ℕ) → bit rest x ≡ true → bit left x ≡ true
  still-left x t = and_l (bit left x) _ (sym (rest-bit n left x pos small) ∙ t)

  module _ (work : ℕ) where
    pub was-left : (bit work (count_trailing_zeros n left) && not (bit left (count_trailing_zeros n left))) ≡ false
    was-left = rw least-in (and-false (bit work (count_trailing_zeros n left)))

    pub now-done : ((x : ℕ) → bit left x ≡ true → bit work x ≡ true) → (x : ℕ)
        → (bit work x && not (bit rest x)) ≡ ((bit work x && not (bit left x)) || eqb x (count_trailing_zeros n left))
    now-done h x =
        rw (rest-bit n left x pos small)
        (by_cases (ℕ_discrete x (count_trailing_zeros n left))
        (λ e. let t : bit left x ≡ true = ap (bit left) e ∙ least-in in rw (eq-eqb x (count_trailing_zeros n left) e, t, h x t))
        (λ e. rw (ne_eqb x (count_trailing_zeros n left) e, and-true (bit left x)) (sym (or-false (bit work x && not (bit left x))))))

-- a place marked among n
pub mark-lt : (n changed changed' p found : ℕ) → p < n → changed < 2 ^ n → ((x : ℕ) → bit changed' x ≡ (bit changed x || (eqb x p && not (eqb found 0)))) → changed' < 2 ^ n
mark-lt n changed changed' p found l h m =
    by_cases (ℕ_discrete found 0)
    (λ e. rw (bit-ext-all changed' changed (λ x. m x ∙ sym (mark-no changed found p x e))) h)
    (λ e. rw (bit-ext-all changed' (bit_or changed (2 ^ p)) (λ x. m x ∙ sym (marked changed found p x e))) (or_lt n changed (2 ^ p) h (pow-lt l)))

-- ---- sets of states

pub difference_low : (n a b : ℕ) → n ≤ 8 → a < 2 ^ n → difference_of a b < 2 ^ n
difference_low n a b l h = rw (mask-trim 8 n (λ q. bit a q && not (bit b q)) l (λ q k m. rw (bit_high n a q h k))) (mask_lt n _)

-- ---- a word that is ready

module _ (r : Rule) (starts classes lead cycle masks : List ℕ) (R : Ready r starts classes lead cycle masks) where
  pub masks-long : length masks ≡ places lead cycle
  masks-long = ap length R.truths ∙ truth-length r lead cycle

  pub masks-low : (p : ℕ) → get_or masks p 0 < 2 ^ r.n
  masks-low p = rw R.truths (truth-lt r lead cycle p)

  pub next_low : (p : ℕ) → p < places lead cycle → next_place_lem lead cycle p < places lead cycle
  next_low = next-place-low lead cycle R.word.repeats

  pub letters-fit : (p : ℕ) → p < places lead cycle → letter_at_lem lead cycle p < r.s
  letters-fit = letter-low r.s lead cycle R.word

  -- the bytes of a place are among those of the word
  pub row_fits : (p : ℕ) → p < places lead cycle → p * r.n + r.n ≤ places lead cycle * r.n
  row_fits p l = let h : suc p * r.n ≤ places lead cycle * r.n = mul-le-mul_right r.n l in omega arith

  -- and these are few
  pub bytes-few : places lead cycle * r.n ≤ 512
  bytes-few = let h : places lead cycle * r.n ≤ 64 * 8 = mul-le-mul R.few_places R.passing.formed.few_states in omega arith

  pub row-few : (p : ℕ) → p < places lead cycle → p * r.n ≤ 512
  row-few p l = let h = row_fits p l in let k = bytes-few in omega arith
