-- The sweep that tries row 15, one transition a turn.
use mathlib.Core.Path.{◌≡◌, refl, sym, ◌∙◌, ap, ap₂}
use mathlib.Core.Logic.{by_cases}
use mathlib.Core.Bool.{Bool, true, false, not}
use mathlib.Core.List.{List, map}
use Prim.Native.Nat.{ℕ, ◌+◌, ◌-◌, ◌/◌, ◌%◌, ◌≤◌, ◌<◌}
use native.Mathlib.Decide.{ℕ_discrete, dec_lt}
use native.Mathlib.Omega.{arith}
use lib.Dec.{ltb}
use lib.ListN.{length, get_or, take, drop}
use borrow.Author.Tests.{eq-eqb, ne_eqb, lt-ltb, le-ltb, ltb-true, ltb-false, not-true, not-false}
use Rattle.sets.specs.Tests.{one}
use Rattle.sets.specs.Lists.{any_of}
use Rattle.sets.proofs.Bools.{bif}
use Rattle.sets.proofs.Lists.{any-in, mem-at, place_of}
use Rattle.sets.proofs.Walks.{any_next, any-end}
use Rattle.theory.specs.Run.{source_of, letter_of_lem, target_of}
use Rattle.slice_search.specs.Places.{ascends}
use Rattle.table_lent.specs.Lent.{is_astray_lem}
use Rattle.table_rows.proofs.Faults.{source-astray, letter-astray, target-astray, in-range, range}
use Rattle.live_set.specs.Sweeps.{flag_of_lem, moved, Swept}
use Rattle.live_set.proofs.Sets.{moved_other, swept-start, swept-next, swept-end, mapped, arrived}
use Rattle.live_arrive.proofs.Rises.{below_last}
use Rattle.live_arrive.specs.Tried.{passes, limit_of_lem, Sourced, Told, Tried, Stepped}

-- ---- one transition

pub true-false : true ≡ false → ⊥
true-false r = let z : ◌≡◌ {A = ℕ} 1 0 = ap one r in omega arith

-- the limit by the letter
module _ (s n a l : ℕ) where
  pub limit-other : (l ≡ a → ⊥) → l < s → limit_of_lem s n a l ≡ n
  unfolding limit_of_lem
  limit-other x b = rw (lt-ltb l s b, ne_eqb l a x)

  pub limit-same : l ≡ a → limit_of_lem s n a l ≡ 0
  unfolding limit_of_lem
  limit-same x = bif (ltb l s) (λ u. rw (u, eq-eqb l a x)) (λ u. rw u)

  pub limit-high : s ≤ l → limit_of_lem s n a l ≡ 0
  unfolding limit_of_lem
  limit-high b = rw (le-ltb l s b)

module _ {s a t : ℕ} {before : List ℕ} where
  told_in : (after : List ℕ) → is_astray_lem (length before) s t ≡ false → after ≡ moved a t before → Told s a t before after true
  told_in after e h = record { verdict = rw e; yes = λ r. h; no = λ r. absurd (true-false r) }

  told-out : is_astray_lem (length before) s t ≡ true → Told s a t before before false
  told-out e = record { verdict = rw e; yes = λ r. absurd (true-false (sym r)); no = λ r. refl }

  -- a transition that the limit passes is one over another letter
  pub told-quickly : {limit : ℕ} → limit ≡ limit_of_lem s (length before) a (letter_of_lem t) → source_of t < length before → target_of t < limit → Told s a t before before true
  told-quickly e x l =
      let n = length before in
      let other : letter_of_lem t ≡ a → ⊥ = λ q. omega (arith, limit-same s n a (letter_of_lem t) q) in
      let low : letter_of_lem t < s = by_cases (dec_lt (letter_of_lem t) s) (λ b. b) (λ q. absurd (omega (arith, limit-high s n a (letter_of_lem t) (omega arith)))) in
      told_in before (in-range n s t x low (omega (arith, limit-other s n a (letter_of_lem t) other low))) (moved_other a t before other)

  pub told-other : (letter_of_lem t ≡ a → ⊥) → limit_of_lem s (length before) a (letter_of_lem t) ≤ target_of t → Told s a t before before false
  told-other x l =
      let n = length before in
      told-out
      (by_cases (dec_lt (letter_of_lem t) s)
      (λ b. target-astray n s t (omega (arith, limit-other s n a (letter_of_lem t) x b)))
      (λ b. letter-astray n s t (omega arith)))

  pub told-target : length before ≤ target_of t → Told s a t before before false
  told-target l = told-out (target-astray (length before) s t l)

  pub told-yes : {after : List ℕ} → a < s → letter_of_lem t ≡ a → source_of t < length before → target_of t < length before → after ≡ moved a t before → Told s a t before after true
  told-yes {after} b e f g h = told_in after (in-range (length before) s t f (omega arith) g) h

-- ---- the turns

-- the first i transitions are in range and swept
pub record Turn (s a : ℕ) (ts before after : List ℕ) (i : ℕ) : Type 0 where
  pub swept : Swept a (take i ts) before after
  pub inside : any_of ts (is_astray_lem (length before) s) ≡ any_of (drop i ts) (is_astray_lem (length before) s)

module _ {s a : ℕ} {ts before : List ℕ} (low : (y : ℕ) → get_or before y 0 ≤ 1) where
  pub turn-start : Turn s a ts before before 0
  turn-start = record { swept = swept-start a ts before low; inside = refl }

  low_bits : {after : List ℕ} {i : ℕ} → Turn s a ts before after i → (y : ℕ) → y < length before → get_or after y 0 % 2 ≡ get_or before y 0
  low_bits u y l = omega (arith, u.swept.at y l, low y)

  module _ {after : List ℕ} {i t : ℕ} (l : i < length ts) (e : t ≡ get_or ts i 0) (u : Turn s a ts before after i) where
    same : is_astray_lem (length after) s t ≡ is_astray_lem (length before) s (get_or ts i 0)
    same = ap₂ (λ (k x : ℕ). is_astray_lem k s x) u.swept.long e

    pub turn-told : {then : List ℕ} → source_of t < length after → Told s a t after then true → Turn s a ts before then (i + 1)
    turn-told x d =
        let in-it : is_astray_lem (length before) s (get_or ts i 0) ≡ false = sym same ∙ not-true (is_astray_lem (length after) s t) (sym d.verdict) in
        record {
          swept =
              rw (d.yes refl ∙ ap (λ (z : ℕ). moved a z after) e)
              (swept-next a ts before low after i l (omega (arith, u.swept.long, x)) (range (length before) s (get_or ts i 0) in-it).2 u.swept);
          inside = u.inside ∙ any_next (is_astray_lem (length before) s) ts i l in-it;
        }

    pub turn-refused : {then : List ℕ} → Told s a t after then false → Tried s a ts before then false
    turn-refused d =
        let out : is_astray_lem (length before) s (get_or ts i 0) ≡ true = sym same ∙ not-false (is_astray_lem (length after) s t) (sym d.verdict) in
        rw (d.no refl)
        (record {
          verdict = rw (any-in ts (is_astray_lem (length before) s) (get_or ts i 0) (mem-at ts i l) out);
          swept = λ r. absurd (true-false (sym r));
          long = u.swept.long;
          low = low_bits u;
        })

  pub turn_end : {after : List ℕ} {i : ℕ} → length ts ≤ i → Turn s a ts before after i → Tried s a ts before after true
  turn_end {after} {i} l u = record {
    verdict = rw (u.inside ∙ any-end (is_astray_lem (length before) s) ts i l);
    swept = λ r. swept-end a ts before low after i l u.swept;
    long = u.swept.long;
    low = low_bits u;
  }

-- ---- sources

pub sourced-none : {n : ℕ} {ts : List ℕ} → length ts ≡ 0 → Sourced n ts true
sourced-none {ts = ts} z = record {
  yes = λ r t m. let p = place_of ts t m in absurd (omega (arith, p.1));
  no = λ r. absurd (true-false r);
}

pub sourced-last : {n : ℕ} {ts : List ℕ} → ascends ts ≡ true → 0 < length ts → {x : ℕ} → x ≡ source_of (get_or ts (length ts - 1) 0) → Sourced n ts (ltb x n)
sourced-last {n} {ts} e h {x} d =
    let top = get_or ts (length ts - 1) 0 in
    record {
      yes = λ r t m. let below = below_last ts e t m in omega (arith, ltb-true x n r);
      no = λ r s. any-in ts (is_astray_lem n s) top (mem-at ts (length ts - 1) (omega arith)) (source-astray n s top (omega (arith, ltb-false x n r)));
    }

-- ---- the verdict

pub passes-not : (n s : ℕ) (ts : List ℕ) → ascends ts ≡ false → false ≡ passes n s ts
unfolding passes
passes-not n s ts e = rw e

pub passes-by : (n s : ℕ) (ts : List ℕ) (r : Bool) → ascends ts ≡ true → r ≡ not (any_of ts (is_astray_lem n s)) → r ≡ passes n s ts
unfolding passes
passes-by n s ts r e h = h ∙ rw e

pub strays : (n s : ℕ) (ts : List ℕ) → ascends ts ≡ true → any_of ts (is_astray_lem n s) ≡ true → false ≡ passes n s ts
strays n s ts e h = passes-by n s ts false e (rw h)

-- ---- the step

pub stepped-not : {s a : ℕ} {ts before : List ℕ} → false ≡ passes (length before) s ts → Stepped s a ts before before false
stepped-not e = record { verdict = e; yes = λ r. absurd (true-false (sym r)); no = λ r. refl }

low-flag : (v : ℕ) → v ≤ 1 → flag_of_lem v ≡ v
low-flag v l =
    by_cases (ℕ_discrete v 0)
    (λ z. ap one (le-ltb 0 v (omega arith)) ∙ sym z)
    (λ x. let e : v ≡ 1 = omega arith in ap one (lt-ltb 0 v (omega arith)) ∙ sym e)

module _ {s a : ℕ} {ts before mid after : List ℕ} (low : (y : ℕ) → get_or before y 0 ≤ 1) (rises : ascends ts ≡ true) where
  pub stepped-yes : Tried s a ts before mid true → after ≡ map (λ v. v / 2) mid → Stepped s a ts before after true
  stepped-yes T h =
      let same : map flag_of_lem before ≡ before = sym (mapped flag_of_lem before before refl (λ j l. sym (low-flag (get_or before j 0) (low j)))) in
      record { verdict = passes-by (length before) s ts true rises T.verdict; yes = λ r. h ∙ arrived a ts before mid (rw same (T.swept refl)); no = λ r. absurd (true-false r) }

  pub stepped-back : Tried s a ts before mid false → after ≡ map (λ v. v % 2) mid → Stepped s a ts before after false
  stepped-back T h =
      let back : before ≡ map (λ v. v % 2) mid = mapped (λ v. v % 2) mid before (sym T.long) (λ j l. sym (T.low j (omega (arith, T.long)))) in
      record { verdict = passes-by (length before) s ts false rises T.verdict; yes = λ r. absurd (true-false (sym r)); no = λ r. h ∙ sym back }
