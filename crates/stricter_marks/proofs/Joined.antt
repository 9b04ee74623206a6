-- What is known of a tagged table and of the marks that the cores leave.
use mathlib.Core.Path.{◌≡◌, refl, sym, ap, ◌∙◌}
use mathlib.Core.Logic.{by_cases}
use mathlib.Core.Bool.{Bool, true, false, ◌&&◌, ◌||◌, cond, or-true, or-false}
use mathlib.Core.List.{List}
use Prim.Native.Nat.{ℕ, zero, suc, ◌+◌, ◌*◌, ◌/◌, ◌%◌, ◌≤◌, ◌<◌}
use native.Mathlib.Omega.{arith}
use native.Mathlib.Decide.{dec_lt}
use native.Mathlib.Nat.{mul-le-mul_right}
use borrow.Author.Tests.{eq-eqb, eqb-true, lt-ltb, ltb-true}
use lib.Dec.{leb}
use lib.ListN.{length, get_or, replicate, length-replicate, get_or-eq_default}
use Rattle.sets.specs.Tests.{Set, one}
use Rattle.sets.proofs.Bools.{bif, and_l, and_r}
use Rattle.stricter_laws.proofs.Pairs.{one-low, parts}
use Rattle.theory.specs.Run.{AcceptingRun}
use Rattle.trim_spec.specs.Trimmed.{is_live, live_marks}
use Rattle.theory_laws.proofs.Sweeping.{live-solved}
use Rattle.stricter_spec.specs.Tags.{first_of, told_of, core_number_lem}
use Rattle.stricter_spec.specs.Tables.{CoreTable}
use Rattle.stricter_spec.specs.Steps.{stands_in, has_core, OnlyCores, CoresIn, Spread}
use Rattle.stricter_laws.proofs.OneTable.{walk-live, same_live}
use Rattle.stricter_marks.specs.Rows.{Standing}
use Rattle.stricter_marks.specs.Sorted.{CoresSorted}

-- ---- a tagged table

module _ {codes moves : List ℕ} {components : ℕ} {spare : ℕ → ℕ → Bool} (C : CoreTable codes moves components (first_of codes) spare)
    (tagged : List ℕ) (long : length tagged ≡ length codes)
    (number : (i : ℕ) → i < length codes → core_number_lem (get_or tagged i 0) ≡ told_of codes (live_marks codes moves) i) where
  -- number i takes part
  abbrev counts : ℕ → Bool
  counts i = is_live (live_marks codes moves) i || leb 65536 (length codes)

  number_in : (i : ℕ) → i < length codes → counts i ≡ true → core_number_lem (get_or tagged i 0) ≡ first_of codes i
  unfolding told_of
  number_in i l e = number i l ∙ ap (λ (b : Bool). cond b (first_of codes i) (length codes)) e

  number-out : (i : ℕ) → i < length codes → counts i ≡ false → core_number_lem (get_or tagged i 0) ≡ length codes
  unfolding told_of
  number-out i l e = number i l ∙ ap (λ (b : Bool). cond b (first_of codes i) (length codes)) e

  -- a number whose tag is that of a number takes part
  counts-low : (i : ℕ) → i < length codes → core_number_lem (get_or tagged i 0) < length codes → counts i ≡ true
  counts-low i l h = bif (counts i) (λ t. t) (λ f. absurd (omega (arith, number-out i l f)))

  -- the numbers of a core take part together
  live_same : (i j : ℕ) → j < length codes → first_of codes j ≡ first_of codes i → is_live (live_marks codes moves) i ≡ true → is_live (live_marks codes moves) j ≡ true
  unfolding is_live
  live_same i j l e t =
      lt-ltb 0 (get_or (live_marks codes moves) j 0)
      (same_live C (live-solved codes moves) i j l e (ltb-true 0 (get_or (live_marks codes moves) i 0) t))

  counts_same : (i j : ℕ) → j < length codes → first_of codes j ≡ first_of codes i → counts i ≡ true → counts j ≡ true
  counts_same i j l e t =
      bif (leb 65536 (length codes))
      (λ b. ap (λ (x : Bool). is_live (live_marks codes moves) j || x) b ∙ or-true (is_live (live_marks codes moves) j))
      (λ b. ap (λ (x : Bool). x || leb 65536 (length codes))
      (live_same i j l e (sym (ap (λ (x : Bool). is_live (live_marks codes moves) i || x) b ∙ or-false (is_live (live_marks codes moves) i)) ∙ t)))

  stands-first : (i : ℕ) → i < length codes → counts i ≡ true → stands_in tagged (first_of codes i) ≡ true
  unfolding stands_in
  stands-first i l t =
      let w = C.within i l in
      eq-eqb _ _ (number_in (first_of codes i) w (counts_same i (first_of codes i) w (C.stands i l) t) ∙ C.stands i l)

  -- and it takes part if its core stands
  counts-first : (i : ℕ) → i < length codes → stands_in tagged (first_of codes i) ≡ true → counts i ≡ true
  unfolding stands_in
  counts-first i l t =
      let w = C.within i l in
      let e = eqb-true (core_number_lem (get_or tagged (first_of codes i) 0)) (first_of codes i) t in
      counts_same (first_of codes i) i l (sym (C.stands i l)) (counts-low (first_of codes i) w (omega (arith, e, w)))

  core-first : (i : ℕ) → i < length codes → counts i ≡ true → (has_core tagged i ≡ true) × (core_number_lem (get_or tagged i 0) ≡ first_of codes i)
  unfolding has_core
  core-first i l t =
      let e = number_in i l t in
      (lt-ltb (core_number_lem (get_or tagged i 0)) (length tagged) (omega (arith, e, long, C.within i l)), e)

  counts-core : (i : ℕ) → i < length codes → has_core tagged i ≡ true → counts i ≡ true
  unfolding has_core
  counts-core i l t = counts-low i l (omega (arith, long, ltb-true (core_number_lem (get_or tagged i 0)) (length tagged) t))

  -- the number that a number of a core bears
  pub core-standing : (i : ℕ) → i < length codes → stands_in tagged (first_of codes i) ≡ true → (has_core tagged i ≡ true) × (core_number_lem (get_or tagged i 0) ≡ first_of codes i)
  core-standing i l t = core-first i l (counts-first i l t)

  pub core-own : (i : ℕ) → i < length codes → has_core tagged i ≡ true → core_number_lem (get_or tagged i 0) ≡ first_of codes i
  core-own i l t = (core-first i l (counts-core i l t)).1

  pub standing : Standing tagged
  standing i l t =
      let m : i < length codes = omega (arith, long) in
      rw (core-own i m t) (stands-first i m (counts-core i m t))

  -- the cores of the numbers of an accepting run stand
  pub run-stands : (start : Set) (w x : ℕ → ℕ) → AcceptingRun codes moves start w x → (k : ℕ) → stands_in tagged (first_of codes (x k)) ≡ true
  unfolding is_live
  run-stands start w x A k =
      let live = walk-live C (live-solved codes moves) x A.run.within
      (λ i. let (t, m, e) = A.run.moves i in record { transition = t; listed = m; source = e.source; target = e.target }) A.again k in
      stands-first (x k) (A.run.within k) (ap (λ (b : Bool). b || leb 65536 (length codes)) (lt-ltb 0 (get_or (live_marks codes moves) (x k) 0) live))

-- ---- marks

zero-at : (n x : ℕ) → ◌≡◌ {A = ℕ} (get_or (replicate n 0) x 0) 0
zero-at zero x = refl
zero-at (suc n) zero = refl
zero-at (suc n) (suc x) = zero-at n x

one-true : (b : Bool) → 0 < one b → b ≡ true
one-true true h = refl
one-true false h = absurd (omega arith)

cond-true : (b : Bool) (v : ℕ) → 0 < cond b v 0 → b ≡ true
cond-true true v h = refl
cond-true false v h = absurd (omega arith)

module _ {acodes bcodes marks : List ℕ} (I : CoresIn acodes bcodes marks) where
  pub cores-low : (x : ℕ) → get_or marks x 0 ≤ 1
  cores-low x =
      by_cases (dec_lt x (length marks))
      (λ l.
      let p = parts (length acodes) (length bcodes) x (rw I.long at l) in
      let e = I.each (x / length bcodes) (x % length bcodes) p.first p.second in
      let h = one-low (stands_in acodes (x / length bcodes) && stands_in bcodes (x % length bcodes)) in
      rw (← p.whole, e) h)
      (λ l. let e = get_or-eq_default marks 0 {n = x} (omega arith) in omega arith)

  -- both numbers of a pair that is in stand for their cores
  pub both-stand : (i j : ℕ) → i < length acodes → j < length bcodes → 0 < get_or marks (i * length bcodes + j) 0 → (stands_in acodes i ≡ true) × (stands_in bcodes j ≡ true)
  both-stand i j k l h =
      let t = one-true _ (rw (I.each i j k l) at h) in
      (and_l (stands_in acodes i) (stands_in bcodes j) t, and_r (stands_in acodes i) (stands_in bcodes j) t)

  pub only-cores : OnlyCores acodes (length bcodes) marks
  only-cores i j l h =
      by_cases (dec_lt i (length acodes))
      (λ k. (both-stand i j k l h).0)
      (λ k.
      let n : length acodes ≤ i = omega arith in
      let m = mul-le-mul_right (length bcodes) n in
      let e = get_or-eq_default marks 0 {n = i * length bcodes + j} (omega (arith, I.long, m)) in
      absurd (omega arith))

  pub stand-in : (i j : ℕ) → i < length acodes → j < length bcodes → stands_in acodes i ≡ true → stands_in bcodes j ≡ true → 0 < get_or marks (i * length bcodes + j) 0
  stand-in i j k l s t =
      let o : one (stands_in acodes i && stands_in bcodes j) ≡ 1 = rw (s, t) in
      rw (I.each i j k l) (omega arith)

-- marks that are spread
module _ {acodes bcodes old new : List ℕ} (S : Spread acodes bcodes old new) where
  pub spread-in : (i j p q : ℕ) → i < length acodes → j < length bcodes → has_core acodes i ≡ true → has_core bcodes j ≡ true
      → core_number_lem (get_or acodes i 0) ≡ p → core_number_lem (get_or bcodes j 0) ≡ q → 0 < get_or old (p * length bcodes + q) 0 → 0 < get_or new (i * length bcodes + j) 0
  spread-in i j p q k l a b e f h =
      let g : (has_core acodes i && has_core bcodes j) ≡ true = rw (a, b) in
      rw (S.each i j k l, g, e, f) h

  pub spread-out : (i j : ℕ) → i < length acodes → j < length bcodes → 0 < get_or new (i * length bcodes + j) 0
      → (has_core acodes i ≡ true) × (has_core bcodes j ≡ true) × (0 < get_or old (core_number_lem (get_or acodes i 0) * length bcodes + core_number_lem (get_or bcodes j 0)) 0)
  spread-out i j k l h =
      let d = rw (S.each i j k l) at h in
      let g = cond-true (has_core acodes i && has_core bcodes j) _ d in
      (and_l (has_core acodes i) (has_core bcodes j) g, and_r (has_core acodes i) (has_core bcodes j) g, rw g at d)

-- ---- no pair of cores

-- where no numbers stand for a pair of cores, nothing is in
module _ (acodes left : List ℕ) (acount : ℕ) (bcodes right : List ℕ) (bcount : ℕ) (starts : Set) (marks : List ℕ)
    (long : length marks ≡ length acodes * length bcodes)
    (none : (i j : ℕ) → i < length acodes → j < length bcodes → (stands_in acodes i && stands_in bcodes j) ≡ false) where
  abbrev zeros : List ℕ
  zeros = replicate (length acodes * length bcodes) 0

  all-out : (x : ℕ) → get_or zeros x 0 ≡ 0
  all-out x = zero-at (length acodes * length bcodes) x

  pub nothing-sorted : CoresSorted acodes left acount bcodes right bcount starts marks (length marks)
  nothing-sorted = record {
    all = zeros;
    in_all = record { long = length-replicate _ _; each = λ i j k l. all-out (i * length bcodes + j) ∙ sym (ap one (none i j k l)) };
    cores = zeros;
    narrowed = record { long = refl; low = λ x. omega (arith, all-out x); sub = λ x h. h; keeps = λ z w h a i. h i };
    sound = λ s K l x h. absurd (omega (arith, all-out x));
    first = record {
      within = omega (arith, whole);
      inside = λ l. absurd (omega (arith, whole));
      begins = λ l. absurd (omega (arith, whole));
      none = λ l x h. absurd (omega (arith, all-out x));
    };
    long = whole;
    spread = λ l. absurd (omega (arith, whole));
  }
    where
      whole : length marks ≡ length zeros
      whole = long ∙ sym (length-replicate (length acodes * length bcodes) 0)
