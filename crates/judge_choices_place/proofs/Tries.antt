-- Laws of the states tried at one place.
use mathlib.Core.Path.{◌≡◌, refl, sym, ◌∙◌, ap}
use mathlib.Core.Logic.{◌⊎◌, ⊎_elim, by_cases}
use mathlib.Core.Bool.{Bool, true, false, ◌&&◌, ◌||◌, not, cond, or-false, or-true, false≢true, true≢false, and-true, and-false}
use mathlib.Core.List.{List}
use Prim.Native.Nat.{ℕ, ◌+◌, ◌*◌, ◌^◌, ◌≤◌, ◌<◌}
use native.Mathlib.Omega.{arith}
use native.Mathlib.Decide.{ℕ_discrete}
use native.Mathlib.Nat.{zero-add, lt_of_lt_of_le}
use lib.Bits.{bit_and, bit_or, or_lt, and_lt}
use lib.Dec.{eqb}
use lib.ListN.{length, get_or, take, drop, length-set, length-take}
use lib.Pow.{pow_mono}
use lib.Seq.{get_or-set_same, get_or-set_other}
use borrow.Author.Tests.{eq-eqb, ne_eqb}
use Rattle.sets.specs.Masks.{bit, mask}
use Rattle.sets.specs.Lists.{sum}
use Rattle.sets.proofs.Bools.{bif}
use Rattle.sets.proofs.Bits.{bit-and, bit-or, bit_high, bit-shl-one, mask-of}
use Rattle.sets.proofs.Lists.{mem-at}
use Rattle.sets.proofs.Masks.{bit_mask, mask_lt}
use Rattle.set_masks.specs.Sets.{difference_of}
use Rattle.theory.specs.Rule.{Rule, entry}
use Rattle.theory.specs.Automaton.{automaton}
use Rattle.theory.specs.Components.{component}
use Rattle.theory.specs.Core.{mix}
use Rattle.theory.specs.Passing.{WellFormed}
use Rattle.std.specs.Prelude.{Option, None, Some, is_some}
use Rattle.rule_entries.specs.Met.{met_of}
use Rattle.rule_entries.proofs.Clauses.{met-first, met-satisfies}
use Rattle.rule_entries.proofs.Entries.{entry-number, entry-part}
use Rattle.judge_choices_spec.specs.ChoicesComputed.{number_of, aim_of}
use Rattle.judge_choices_spec.specs.Rounds.{put_met}

-- ---- the set that a state's clause has to meet

either : (a c d : Bool) → ((a && not c) || (d && c)) ≡ cond c d a
either a c d = bif c (λ t. rw (t, and-false a, and-true d)) (λ t. rw (t, and-true a, and-false d, or-false a))

pub aim-set : (r : Rule) → r.n ≤ 8 → (all near q class : ℕ) → all < 2 ^ r.n → near < 2 ^ r.n → class ≡ mask r.n (λ x. eqb (component r x) (component r q))
    → bit_or (difference_of all class) (bit_and near class) ≡ aim_of r all near q
unfolding aim_of mix automaton
aim-set r few all near q class h k e =
    let wide : class < 2 ^ 8 = rw e (lt_of_lt_of_le (mask_lt r.n (λ x. eqb (component r x) (component r q))) (pow_mono few)) in
    let part : (x : ℕ) → x < 8 → bit (bit_or (difference_of all class) (bit_and near class)) x ≡ ((bit all x && not (bit class x)) || (bit near x && bit class x))
    = λ x l. rw (bit-or (difference_of all class) (bit_and near class) x, bit_mask 8 (λ y. bit all y && not (bit class y)) x l, bit-and near class x) in
    mask-of 8 r.n _ (mix (automaton r) q (bit all) (bit near)) few
    (or_lt 8 (difference_of all class) (bit_and near class) (mask_lt 8 _) (and_lt 8 near class (lt_of_lt_of_le k (pow_mono few)) wide))
    (λ x l. part x (omega arith) ∙ either (bit all x) (bit class x) (bit near x)
    ∙ ap (λ (b : Bool). cond b (bit near x) (bit all x)) (ap (λ (m : ℕ). bit m x) e ∙ bit_mask r.n _ x l))
    (λ x l m. part x m ∙ rw (bit_high r.n all x h l, bit_high r.n near x k l))

-- ---- the number of a clause fits a byte

pub entry-few : (r : Rule) → WellFormed r → (q a : ℕ) → q < r.n → a < r.s → length (entry r q a) ≤ 8
entry-few r w q a l m =
    let i = q * r.s + a in
    let e : length (entry r q a) ≡ length (take (get_or r.counts i 0) (drop (sum (take i r.counts)) r.clauses)) = ap length (entry-part r w q a l m) in
    let k = length-take (get_or r.counts i 0) (drop (sum (take i r.counts)) r.clauses) in
    omega (arith, w.few_clauses _ (mem-at r.counts i (entry-number r w q a l m)))

pub clause-listed : (s : ℕ) (cl : List ℕ) (j : ℕ) → met_of s cl ≡ Some j → j < length cl
unfolding number_of
clause-listed s cl j e =
    let m = met-first s cl 0 (sym (met-satisfies s cl) ∙ ap is_some e) in
    let n : j ≡ m.number = sym (ap number_of (sym m.found ∙ e)) ∙ zero-add m.number in
    rw n m.listed

-- ---- one state more

pub put-length : (m : Option ℕ) (i : ℕ) (xs : List ℕ) → length (put_met m i xs) ≡ length xs
unfolding put_met
put-length (Some j) i xs = length-set xs i j
put-length None i xs = refl

put_same : (m : Option ℕ) (i : ℕ) (xs : List ℕ) → i < length xs → is_some m ≡ true → get_or (put_met m i xs) i 0 ≡ number_of m
unfolding put_met number_of
put_same (Some j) i xs l e = get_or-set_same xs i j 0 l
put_same None i xs l e = absurd (false≢true e)

put_other : (m : Option ℕ) (i : ℕ) (xs : List ℕ) (k : ℕ) → (k ≡ i → ⊥) → get_or (put_met m i xs) k 0 ≡ get_or xs k 0
unfolding put_met
put_other (Some j) i xs k n = get_or-set_other xs i k j 0 n
put_other None i xs k n = refl

put-none : (m : Option ℕ) (i : ℕ) (xs : List ℕ) → is_some m ≡ false → put_met m i xs ≡ xs
unfolding put_met
put-none (Some j) i xs e = absurd (true≢false e)
put-none None i xs e = refl

module _ (n base : ℕ) (number : ℕ → ℕ) (old xs : List ℕ) (found : ℕ) (room : base + n ≤ length xs)
    (here : (q : ℕ) → q < n → get_or xs (base + q) 0 ≡ cond (bit found q) (number q) (get_or old (base + q) 0)) (m : Option ℕ) (q₀ : ℕ) (l : q₀ < n) where
  -- the state has a clause
  pub here-yes : is_some m ≡ true → number_of m ≡ number q₀ → (q : ℕ) → q < n
      → get_or (put_met m (base + q₀) xs) (base + q) 0 ≡ cond (bit (bit_or found (2 ^ q₀)) q) (number q) (get_or old (base + q) 0)
  here-yes t e q k =
      rw (bit-or found (2 ^ q₀) q, bit-shl-one q₀ q)
      (by_cases (ℕ_discrete q q₀)
      (λ x. rw (x, eq-eqb q₀ q₀ refl, or-true (bit found q₀)) (put_same m (base + q₀) xs (omega arith) t ∙ e))
      (λ x. rw (ne_eqb q₀ q (λ y. x (sym y)), or-false (bit found q)) (put_other m (base + q₀) xs (base + q) (λ y. x (omega arith)) ∙ here q k)))

  -- it has none
  pub here-no : is_some m ≡ false → (q : ℕ) → q < n → get_or (put_met m (base + q₀) xs) (base + q) 0 ≡ cond (bit found q) (number q) (get_or old (base + q) 0)
  here-no t q k = rw (put-none m (base + q₀) xs t) (here q k)

  pub others-on : ((i : ℕ) → (i < base) ⊎ (base + n ≤ i) → get_or xs i 0 ≡ get_or old i 0) → (i : ℕ) → (i < base) ⊎ (base + n ≤ i) → get_or (put_met m (base + q₀) xs) i 0 ≡ get_or old i 0
  others-on h i k = put_other m (base + q₀) xs i (λ e. ⊎_elim (λ y. omega arith) (λ y. omega arith) k) ∙ h i k
